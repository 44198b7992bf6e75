-- Counting the different items that an item is linked to, fact by fact: a fact that is not the one before it links to an item that is not
-- counted yet, since facts ascend.
-- Assumes nothing.
use Rattle.std.proofs.Common.{◌≡◌, ℕ, zero, suc, ◌+◌, ◌-◌, ◌*◌, ◌/◌, ◌%◌, ◌<◌, ◌≤◌, Bool, true, false, cond, not, ◌&&◌, ◌||◌, eqb, ◌≢◌, List, [], ◌∷◌, length, get_or, take, set, length-take, get_or-set_other, get_or-set_same, refl, sym, ap, ◌∙◌, arith}
use Rattle.std.specs.List.{list_any}
use Rattle.std.proofs.lemmas.List.{get_or-take}
use Rattle.std.proofs.lemmas.List.Folds.{list_any_at, list_any_more}
use Rattle.base.proofs.Tests.{and_left, and_right, bool_cases, eq-cases, eq-eqb, eqb-eq, eqb-self, ne_eqb, or_cases, or-one, or-none}
use Rattle.base.specs.Range.{bit}
use Rattle.items.specs.code.Facts.{Alike, degree_in, has_in, item_in, linked_in, target_in}
use Rattle.logic.specs.Record.{count}

-- ---- counting

pub count-none : (n : ℕ) → count (λ y. false) n ≡ 0
unfolding count
count-none zero = refl
count-none (suc n) = rw (count-none n)

pub count_few : (p : ℕ → Bool) (n : ℕ) → count p n ≤ n
unfolding count
count_few p zero = omega arith
count_few p (suc n) = let h = count_few p n in bool_cases (p n) (λ q. rw q (omega arith)) (λ q. rw q (omega arith))

pub count-ext : (p q : ℕ → Bool) (n : ℕ) → ((y : ℕ) → y < n → p y ≡ q y) → count p n ≡ count q n
unfolding count
count-ext p q zero f = refl
count-ext p q (suc n) f = rw (f n (omega arith), count-ext p q n (λ y h. f y (omega arith)))

-- a number that does not pass is not counted: those below it and above it are as before
count_past : (p : ℕ → Bool) (t n : ℕ) → n ≤ t → count (λ y. p y || eqb t y) n ≡ count p n
count_past p t n h = count-ext _ _ n (λ y l. rw (ne_eqb {m = t} {n = y} (λ z. omega arith)) (bool_cases (p y) (λ q. rw q) (λ q. rw q)))

-- one number more that passes
pub count-one_more : (p : ℕ → Bool) (t n : ℕ) → p t ≡ false → t < n → count (λ y. p y || eqb t y) n ≡ suc (count p n)
unfolding count
count-one_more p t zero h l = absurd (omega arith)
count-one_more p t (suc n) h l =
    eq-cases t n
    (λ z.
    let e = count_past p t n (omega arith) in
    let out : p n ≡ false = rw (← z) h in
    let here : eqb t n ≡ true = eq-eqb z in
    rw (out, here, e) (omega arith))
    (λ z. let e = count-one_more p t n h (omega arith) in
    let s : (p n || eqb t n) ≡ p n = rw (ne_eqb z) (bool_cases (p n) (λ q. rw q) (λ q. rw q)) in rw (s, e) (omega arith))

-- ---- facts

-- one fact more
linked-more : (fs : List ℕ) (i x y : ℕ) → i < length fs
    → linked_in (take (i + 1) fs) x y ≡ (linked_in (take i fs) x y || (eqb (item_in (get_or fs i 0)) x && eqb (target_in (get_or fs i 0)) y))
linked-more fs i x y h = list_any_more (λ f. eqb (item_in f) x && eqb (target_in f) y) fs i 0 h

-- a fact of another item
pub degree-other : (fs : List ℕ) (i x : ℕ) → i < length fs → item_in (get_or fs i 0) ≢ x → degree_in (take (i + 1) fs) x ≡ degree_in (take i fs) x
degree-other fs i x h z =
    count-ext _ _ 256 (λ y l. linked-more fs i x y h ∙ rw (ne_eqb z) (bool_cases (linked_in (take i fs) x y) (λ q. rw q) (λ q. rw q)))

-- a fact that is there already
pub degree-again : (fs : List ℕ) (i x : ℕ) → i < length fs → linked_in (take i fs) x (target_in (get_or fs i 0)) ≡ true
    → degree_in (take (i + 1) fs) x ≡ degree_in (take i fs) x
degree-again fs i x h known =
    count-ext _ _ 256
    (λ y l.
    linked-more fs i x y h
    ∙ eq-cases (target_in (get_or fs i 0)) y
    (λ z. let k : linked_in (take i fs) x y ≡ true = rw (← z) known in rw k)
    (λ z. rw (ne_eqb z) (bool_cases (linked_in (take i fs) x y) (λ q. rw q) (λ q. rw q (bool_cases (eqb (item_in (get_or fs i 0)) x) (λ r. rw r) (λ r. rw r))))))

-- a fact that is not
pub degree-new : (fs : List ℕ) (i x : ℕ) → i < length fs → item_in (get_or fs i 0) ≡ x → linked_in (take i fs) x (target_in (get_or fs i 0)) ≡ false
    → degree_in (take (i + 1) fs) x ≡ suc (degree_in (take i fs) x)
degree-new fs i x h z fresh =
    let t = target_in (get_or fs i 0) in
    count-ext _ (λ y. linked_in (take i fs) x y || eqb t y) 256 (λ y l. linked-more fs i x y h ∙ rw (eq-eqb z))
    ∙ count-one_more (λ y. linked_in (take i fs) x y) t 256 fresh (omega arith)

-- none of the first i passes
any_none : (p : ℕ → Bool) (fs : List ℕ) (i : ℕ) → i ≤ length fs → ((j : ℕ) → j < i → p (get_or fs j 0) ≡ false) → list_any p (take i fs) ≡ false
any_none p fs zero h f = refl
any_none p fs (suc i) h f =
    let e : list_any p (take (i + 1) fs) ≡ (list_any p (take i fs) || p (get_or fs i 0)) = list_any_more p fs i 0 (omega arith) in
    let n : i + 1 ≡ suc i = omega arith in
    (rw n at e) ∙ or-none (any_none p fs i (omega arith) (λ j l. f j (omega arith))) (f i (omega arith))

lt_of_not : (i : ℕ) → i ≢ 0 → 0 < i
lt_of_not i z = omega arith

-- a fact by its parts
whole_fact : (f g : ℕ) → f / 65536 ≡ g / 65536 → item_in f ≡ item_in g → target_in f ≡ target_in g → f ≡ g
whole_fact f g a b c = omega arith

module _ (fs : List ℕ) (A : Alike fs) (i : ℕ) (h : i < length fs) where
  -- the fact before is this one
  repeated : 0 < i → get_or fs (i - 1) 0 ≡ get_or fs i 0 → linked_in (take i fs) (item_in (get_or fs i 0)) (target_in (get_or fs i 0)) ≡ true
  repeated pos e =
      let f = get_or fs i 0 in
      list_any_at (λ g. eqb (item_in g) (item_in f) && eqb (target_in g) (target_in f)) (take i fs) (i - 1) 0 (omega (arith, length-take i fs))
      (rw (get_or-take i fs (i - 1) 0 (omega arith), e, eqb-self (item_in f), eqb-self (target_in f)))

  -- it is not: so it is above all before it
  fresh : (0 < i → get_or fs (i - 1) 0 ≢ get_or fs i 0) → linked_in (take i fs) (item_in (get_or fs i 0)) (target_in (get_or fs i 0)) ≡ false
  fresh n =
      let f = get_or fs i 0 in
      any_none (λ g. eqb (item_in g) (item_in f) && eqb (target_in g) (target_in f)) fs i (omega arith)
      (λ j l.
      eq-cases (item_in (get_or fs j 0)) (item_in f)
      (λ y. eq-cases (target_in (get_or fs j 0)) (target_in f)
      (λ z.
      let same : get_or fs j 0 ≡ f = whole_fact _ _ (A.same j i (omega arith) h) y z in
      let below : get_or fs j 0 ≤ get_or fs (i - 1) 0 = A.ascending j (i - 1) (omega arith) (omega arith) in
      let above : get_or fs (i - 1) 0 ≤ f = A.ascending (i - 1) i (omega arith) h in
      absurd (n (omega arith) (omega arith)))
      (λ z. rw (ne_eqb z) (bool_cases (eqb (item_in (get_or fs j 0)) (item_in f)) (λ q. rw q) (λ q. rw q))))
      (λ y. rw (ne_eqb y)))

  -- the degrees with one fact more, where `last` is the fact before, or no fact
  pub degree-step : (last x : ℕ) → (0 < i → last ≡ get_or fs (i - 1) 0) → (i ≡ 0 → last ≢ get_or fs i 0)
      → degree_in (take (i + 1) fs) x ≡ degree_in (take i fs) x + cond (eqb (item_in (get_or fs i 0)) x) (bit (not (eqb (get_or fs i 0) last))) 0
  degree-step last x before none =
      let f = get_or fs i 0 in
      eq-cases (item_in f) x
      (λ y.
      eq-cases f last
      (λ z.
      let pos : 0 < i = lt_of_not i (λ q. none q (sym z)) in
      let known : linked_in (take i fs) x (target_in f) ≡ true = rw y at (repeated pos (sym (before pos) ∙ sym z)) in
      degree-again fs i x h known ∙ rw (eq-eqb y, eq-eqb z) (omega arith))
      (λ z.
      let known : linked_in (take i fs) x (target_in f) ≡ false = rw y at (fresh (λ pos q. z (sym q ∙ sym (before pos)))) in
      degree-new fs i x h y known ∙ rw (eq-eqb y, ne_eqb z) (omega arith)))
      (λ y. degree-other fs i x h y ∙ rw (ne_eqb y) (omega arith))

-- a table of degrees after one fact more
pub degrees-set : (fs : List ℕ) (i : ℕ) (d : List ℕ) (o v last x : ℕ) → Alike fs → i < length fs → length d ≡ 256 → x < 256
    → ((y : ℕ) → y < 256 → get_or d y 0 ≡ degree_in (take i fs) y)
    → (0 < i → last ≡ get_or fs (i - 1) 0) → (i ≡ 0 → last ≢ get_or fs i 0)
    → o ≡ item_in (get_or fs i 0) → v ≡ bit (not (eqb (get_or fs i 0) last))
    → get_or (set d o (get_or d o 0 + v)) x 0 ≡ degree_in (take (i + 1) fs) x
degrees-set fs i d o v last x A h size few right before none at new =
    eq-cases o x
    (λ z.
    let s = get_or-set_same d o (get_or d o 0 + v) 0 (omega arith) in
    let y : item_in (get_or fs i 0) ≡ o = sym at in
    let r = degree-step fs A i h last o before none in
    rw (sym z) (s ∙ rw (right o (omega arith), new, r, eq-eqb y) refl))
    (λ z.
    let y : item_in (get_or fs i 0) ≢ x = λ q. z (at ∙ q) in
    get_or-set_other d o x (get_or d o 0 + v) 0 (λ q. z (sym q)) ∙ right x few ∙ sym (degree-other fs i x h y))
