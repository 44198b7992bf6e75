-- A delivered record that breaks neither 9 nor 12 keeps the rule on single links and the list of pairs.
-- Assumes nothing.
use Rattle.std.proofs.Common.{◌≡◌, ◌≢◌, ℕ, zero, suc, ◌+◌, ◌-◌, ◌<◌, ◌≤◌, Bool, true, false, cond, not, ◌&&◌, ◌||◌, eqb, List, [], ◌∷◌, length, refl, sym, ap, ◌∙◌, arith}
use Rattle.std.specs.List.{list_any}
use Rattle.base.proofs.Missing.{and-never}
use Rattle.base.proofs.Tests.{and_both, and_left, and_right, and-swap, bool_cases, both_ways, eq-cases, eq-eqb, eqb-eq, eqb-sym, lt-cases, ne_eqb, not-to-true, or_cases}
use Rattle.base.specs.Links.{is_single}
use Rattle.blocks.specs.Entries.{nth}
use Rattle.blocks.specs.declared.Entry.{Entry}
use Rattle.clashes.proofs.Among.{among_one}
use Rattle.clashes.proofs.KeptApart.{two-given}
use Rattle.clashes.specs.Promise.{Apart}
use Rattle.delivered.specs.Promise.{OneEach}
use Rattle.delivered.specs.Reading.{another, single_link, to_another}
use Rattle.delivered.specs.Record.{delivered_record, gives, links}
use Rattle.std.proofs.Math.Option.{Option, none, some}
use Rattle.logic.specs.Background.{Keeps, standing}
use Rattle.logic.specs.Record.{count, successors}
use Rattle.meaning.specs.Specimen.{owns}
use Rattle.pairs.specs.Pairs.{excludes_in, under}
use Rattle.pairs.specs.Promise.{RightList}

-- ---- one number at most

count-nil : (p : ℕ → Bool) (n : ℕ) → ((x : ℕ) → x < n → p x ≡ false) → count p n ≡ 0
unfolding count
count-nil p zero f = refl
count-nil p (suc n) f = rw (f n (omega arith), count-nil p n (λ x l. f x (omega arith)))

count-only : (p : ℕ → Bool) (n : ℕ) → ((x y : ℕ) → x < n → y < n → p x ≡ true → p y ≡ true → x ≡ y) → count p n ≤ 1
unfolding count
count-only p zero f = omega arith
count-only p (suc n) f =
    bool_cases (p n)
    (λ q. let h = count-nil p n (λ x l. bool_cases (p x) (λ r. absurd (let e = f x n (omega arith) (omega arith) r q in omega arith)) (λ r. r)) in rw (q, h) (omega arith))
    (λ q. let h = count-only p n (λ x y l m. f x y (omega arith) (omega arith)) in rw q (omega arith))

-- ---- entries that link

next-entry : (p : Entry → Bool) (e : Entry) (es : List Entry) (k : ℕ) → 1 ≤ k → p (nth es k) ≡ true → p (nth (e ∷ es) (suc k)) ≡ true
unfolding nth
next-entry p e es zero lo h = absurd (omega arith)
next-entry p e es (suc k) lo h = h

-- one of a list passes: which, counted from 1
entry-index : {A : Type 0} (p : Entry → Bool) (es : List Entry) → list_any p es ≡ true → ((k : ℕ) → 1 ≤ k → k ≤ length es → p (nth es k) ≡ true → A) → A
unfolding nth
entry-index p [] h f = both_ways h refl
entry-index p (e ∷ es) h f =
    or_cases (p e) (list_any p es) h
    (λ q. f 1 (omega arith) (omega arith) q)
    (λ q. entry-index p es q (λ k lo hi r. f (suc k) (omega arith) (omega arith) (next-entry p e es k lo r)))

-- what an entry says that links
links-parts : (l x y : ℕ) (e : Entry) → links l x y e ≡ true → (e.kind ≡ 8) × (e.owner ≡ suc x) × (e.name ≡ l) × (e.number ≡ suc y)
links-parts l x y e h =
    let a = and_right (eqb e.kind 8) (eqb e.owner (suc x) && (eqb e.name l && eqb e.number (suc y))) h in
    let b = and_right (eqb e.owner (suc x)) (eqb e.name l && eqb e.number (suc y)) a in (
      eqb-eq (and_left (eqb e.kind 8) (eqb e.owner (suc x) && (eqb e.name l && eqb e.number (suc y))) h),
      eqb-eq (and_left (eqb e.owner (suc x)) (eqb e.name l && eqb e.number (suc y)) a),
      eqb-eq (and_left (eqb e.name l) (eqb e.number (suc y)) b),
      eqb-eq (and_right (eqb e.name l) (eqb e.number (suc y)) b),
    )

module _ (es : List Entry) (one : OneEach es) (l x : ℕ) (single : is_single l ≡ true) where
  -- two entries link x by l to one item
  linked-alike : (y z i j : ℕ) → 1 ≤ i → i < j → j ≤ length es → links l x y (nth es i) ≡ true → links l x z (nth es j) ≡ true → y ≡ z
  unfolding another
  linked-alike y z i j lo lt hi a b =
      eq-cases y z (λ q. q)
      (λ q.
      let s = nth es i in
      let t = nth es j in
      let p = links-parts l x y s a in
      let r = links-parts l x z t b in
      let own : s.owner ≡ t.owner = p.1 ∙ sym r.1 in
      let name : s.name ≡ t.name = p.2 ∙ sym r.2 in
      let other : eqb s.number t.number ≡ false = rw (p.3, r.3) (ne_eqb (λ w. q (omega arith))) in
      let link : single_link t ≡ true = and_both (eq-eqb r.0) (ap is_single r.2 ∙ single) in
      let leads : to_another t s ≡ true = and_both (eq-eqb p.0) (and_both (eq-eqb own) (and_both (eq-eqb name) (not-to-true other))) in
      both_ways (and_both link (among_one (to_another t) es (j - 1) (record { at = i; from = lo; to = omega arith; passes = leads })))
      (one.each j (omega arith) hi))

  -- [J5] "some links .. lead to one item only": the record keeps it
  single-kept : (total : ℕ) → successors (delivered_record total es) l x ≤ 1
  unfolding delivered_record
  single-kept total =
      count-only (λ y. list_any (links l x y) es) total
      (λ y z ly lz p q.
      entry-index (links l x y) es p
      (λ i lo hi a. entry-index (links l x z) es q
      (λ j lo' hi' b.
      lt-cases i j
      (λ lt. linked-alike y z i j lo lt hi' a b)
      (λ ge. eq-cases i j
      (λ e.
      let a' = (links-parts l x y (nth es i) a).3 in
      let b' = (links-parts l x z (nth es j) b).3 in
      let b'' : (nth es i).number ≡ suc z = rw e b' in
      omega arith)
      (λ n. sym (linked-alike z y j i lo' (omega arith) hi b a))))))

-- ---- properties

-- an item has a property where an entry gives it, as a specimen's group has it
given-owns : (p x : ℕ) (es : List Entry) → list_any (gives p x) es ≡ owns (suc x) p es
unfolding owns
given-owns p x [] = refl
given-owns p x (e ∷ es) = rw (given-owns p x es, eqb-sym e.owner (suc x), eqb-sym e.name p)

-- [J5] [S8] a record that breaks neither number keeps the rule and the list
pub kept : (P : List ℕ) {n : ℕ} (total : ℕ) (es : List Entry) → RightList P n → OneEach es → Apart P es → Keeps (under P) (delivered_record total es)
unfolding delivered_record
kept P total es R one A = record {
  caps = λ l m x e h.
      bool_cases (is_single l)
      (λ q. let g : some 1 ≡ some m = rw q at e in let z : 1 ≡ m = cc in omega (arith, z, single-kept es one l x q total))
      (λ q. let g : none ≡ some m = rw q at e in let z : ◌≡◌ {A = ℕ} 0 1 = cc in absurd (omega arith));
  exclusions = λ p q x e h.
      and-never (λ a b. two-given P es R A (suc x) p q e (sym (given-owns p x es) ∙ a) (sym (given-owns q x es) ∙ b));
}
