-- The facts of the entries of a delivered record, sorted, are its record, and an item fits alike in both.
-- Assumes nothing.
use Rattle.std.proofs.Common.{◌≡◌, ℕ, zero, suc, ◌+◌, ◌-◌, ◌*◌, ◌/◌, ◌%◌, ◌<◌, ◌≤◌, Bool, true, false, cond, not, ◌&&◌, ◌||◌, eqb, leb, ltb, ◌≢◌, List, [], ◌∷◌, map, length, get_or, refl, sym, ap, ◌∙◌, arith}
use Rattle.std.proofs.lemmas.List.{ext_get_or, get_or-map}
use Rattle.std.proofs.lemmas.List.Folds.{list_any_at}
use lib.ListN.{length-map}
use Rattle.std.specs.List.{list_any}
use Rattle.blocks.specs.Entries.{nth, zero_entry}
use Rattle.items.proofs.SpanLaws.{any_index}
use Rattle.sorting.proofs.SortedList.{sorted-ascending}
use Rattle.base.proofs.Tests.{and-swap, bool_cases, eq-cases, eq-eqb, eqb-eq, eqb-self, ne_eqb, iff-eq, and_left, and_right, or-none, or_cases, le-leb, leb-le, lt-cases, ltb-lt, tests}
use Rattle.base.specs.Range.{bit}
use Rattle.blocks.specs.declared.Entry.{Entry}
use Rattle.delivered.specs.Promise.{LegalRecord}
use Rattle.delivered.specs.Reading.{form_ok, is_item, items_ok}
use Rattle.delivered.specs.Record.{delivered_record, gives, links}
use Rattle.items.specs.code.Record.{AllOf, Allowed, fact_of, record_in}
use Rattle.items.specs.code.Facts.{Ascends, item_in, target_in}
use Rattle.logic.specs.Place.{Atom, Place, atom, has, lacks, least, most, nothing}
use Rattle.logic.specs.Record.{Record, count, each_linked, every, fits, meets, successors}
use Rattle.logic.specs.Tree.{end, leaf, node}
use Rattle.base.specs.Ascending.{insert_in, sort}
use Rattle.items.proofs.DegreeLaws.{count-ext}
use Rattle.logic.proofs.Records.Counting.{every-ext}
use Rattle.sorting.specs.Sorted.{sorted}

-- ---- facts of entries

module _ (total : ℕ) (few : total ≤ 256) (e : Entry) (A : Allowed total e) where
  link-parts : e.kind ≡ 8 → (fact_of e / 65536 ≡ 2 * e.name + 1) × (item_in (fact_of e) ≡ e.owner - 1) × (target_in (fact_of e) ≡ e.number - 1)
  unfolding fact_of
  link-parts z =
      let o = A.other z in
      let f : fact_of e ≡ 65536 * (2 * e.name + 1) + 256 * (e.owner - 1) + (e.number - 1) = rw (fact_of, eq-eqb z) in
      let a = A.item in let b = A.few in
      (rw f (omega arith), rw f (omega arith), rw f (omega arith))

  property-parts : e.kind ≢ 8 → (fact_of e / 65536 ≡ 2 * e.name) × (item_in (fact_of e) ≡ e.owner - 1)
  unfolding fact_of
  property-parts z =
      let n = A.blank z in
      let f : fact_of e ≡ 65536 * (2 * e.name) + 256 * (e.owner - 1) = rw (fact_of, ne_eqb z, n) (omega arith) in
      let a = A.item in let b = A.few in
      (rw f (omega arith), rw f (omega arith))

  gives-fact : (p x : ℕ) → (eqb (fact_of e / 65536) (2 * p) && eqb (item_in (fact_of e)) x) ≡ gives p x e
  gives-fact p x =
      eq-cases e.kind 8
      (λ z.
      let k = link-parts z in
      let n : e.kind ≢ 1 = λ q. let w : ◌≡◌ {A = ℕ} 8 1 = sym z ∙ q in omega arith in
      rw (k.0, ne_eqb n, ne_eqb {m = 2 * e.name + 1} {n = 2 * p} (λ q. omega arith)))
      (λ z.
      let k = property-parts z in
      let one = A.kind z in
      let a = A.item in
      rw (k.0, k.1, eq-eqb one)
      (eq-cases e.name p
      (λ q. rw (q, eqb-self p, eqb-self (2 * p)) (eq-cases e.owner (suc x)
      (λ r. let s : eqb (e.owner - 1) x ≡ true = omega tests in rw (eq-eqb r, s))
      (λ r. let s : eqb (e.owner - 1) x ≡ false = omega tests in rw (ne_eqb r, s))))
      (λ q. rw (ne_eqb q, ne_eqb {m = 2 * e.name} {n = 2 * p} (λ w. q (omega arith))) (bool_cases (eqb e.owner (suc x)) (λ r. rw r) (λ r. rw r)))))

  links-fact : (l x y : ℕ) → (eqb (fact_of e / 65536) (2 * l + 1) && (eqb (item_in (fact_of e)) x && eqb (target_in (fact_of e)) y)) ≡ links l x y e
  links-fact l x y =
      eq-cases e.kind 8
      (λ z.
      let k = link-parts z in
      let a = A.item in
      let o = A.other z in
      rw (k.0, k.1, k.2, eq-eqb z)
      (eq-cases e.name l
      (λ q. rw (q, eqb-self l, eqb-self (2 * l + 1)) (eq-cases e.owner (suc x)
      (λ r. let s : eqb (e.owner - 1) x ≡ true = omega tests in rw (eq-eqb r, s) (eq-cases e.number (suc y)
      (λ v. let w : eqb (e.number - 1) y ≡ true = omega tests in rw (eq-eqb v, w))
      (λ v. let w : eqb (e.number - 1) y ≡ false = omega tests in rw (ne_eqb v, w))))
      (λ r. let s : eqb (e.owner - 1) x ≡ false = omega tests in rw (ne_eqb r, s))))
      (λ q. rw (ne_eqb q, ne_eqb {m = 2 * e.name + 1} {n = 2 * l + 1} (λ w. q (omega arith))) (bool_cases (eqb e.owner (suc x)) (λ r. rw r) (λ r. rw r)))))
      (λ z. let k = property-parts z in rw (k.0, ne_eqb z, ne_eqb {m = 2 * e.name} {n = 2 * l + 1} (λ q. omega arith)))

-- ---- in any order

or-swap : (a b c : Bool) → (a || (b || c)) ≡ (b || (a || c))
or-swap true b c = bool_cases b (λ q. rw q) (λ q. rw q)
or-swap false b c = refl

any_insert : (p : ℕ → Bool) (x : ℕ) (l : List ℕ) → list_any p (insert_in leb x l) ≡ (p x || list_any p l)
unfolding insert_in
any_insert p x [] = refl
any_insert p x (y ∷ l) = bool_cases (leb x y) (λ q. rw q) (λ q. rw (q, any_insert p x l) (or-swap (p y) (p x) (list_any p l)))

any_sorted : (p : ℕ → Bool) (l : List ℕ) → list_any p (sorted l) ≡ list_any p l
unfolding sort
any_sorted p [] = refl
any_sorted p (x ∷ l) = any_insert p x (sorted l) ∙ rw (any_sorted p l)

module _ (total : ℕ) (few : total ≤ 256) where
  any_gives : (p x : ℕ) (es : List Entry) → AllOf (Allowed total) es
      → list_any (λ f. eqb (f / 65536) (2 * p) && eqb (item_in f) x) (map fact_of es) ≡ list_any (gives p x) es
  any_gives p x [] A = refl
  any_gives p x (e ∷ es) A = rw (gives-fact total few e A.0 p x, any_gives p x es A.1)

  any_links : (l x y : ℕ) (es : List Entry) → AllOf (Allowed total) es
      → list_any (λ f. eqb (f / 65536) (2 * l + 1) && (eqb (item_in f) x && eqb (target_in f) y)) (map fact_of es) ≡ list_any (links l x y) es
  any_links l x y [] A = refl
  any_links l x y (e ∷ es) A = rw (links-fact total few e A.0 l x y, any_links l x y es A.1)

  -- links lead to items of the record alone
  links-within : (l x y : ℕ) (es : List Entry) → AllOf (Allowed total) es → total ≤ y → list_any (links l x y) es ≡ false
  links-within l x y [] A h = refl
  links-within l x y (e ∷ es) A h =
      or-none
      (eq-cases e.kind 8
      (λ z. let o = A.0.other z in rw (ne_eqb {m = e.number} {n = suc y} (λ q. omega arith))
      (bool_cases (eqb e.kind 8) (λ r. rw r (bool_cases (eqb e.owner (suc x)) (λ v. rw v (bool_cases (eqb e.name l) (λ w. rw w) (λ w. rw w))) (λ v. rw v))) (λ r. rw r)))
      (λ z. rw (ne_eqb z)))
      (links-within l x y es A.1 h)

-- ---- an item fits alike in two records that say the same, of which one has more items that nothing leads to

count_beyond : (p : ℕ → Bool) (n m : ℕ) → n ≤ m → ((y : ℕ) → n ≤ y → p y ≡ false) → count p m ≡ count p n
unfolding count
count_beyond p n zero h f = let z : n ≡ 0 = omega arith in rw z
count_beyond p n (suc m) h f =
    eq-cases n (suc m) (λ z. rw z) (λ z. let e = count_beyond p n m (omega arith) f in rw (f m (omega arith)) (omega (arith, e)))

every_beyond : (p : ℕ → Bool) (n m : ℕ) → n ≤ m → ((y : ℕ) → n ≤ y → p y ≡ true) → every p m ≡ every p n
unfolding every
every_beyond p n zero h f = let z : n ≡ 0 = omega arith in rw z
every_beyond p n (suc m) h f =
    eq-cases n (suc m) (λ z. rw z) (λ z. rw (f m (omega arith)) (every_beyond p n m (omega arith) f))

module _ (c d : Record) (le : d.size ≤ c.size) (same-property : (p x : ℕ) → c.property p x ≡ d.property p x)
    (same-link : (l x y : ℕ) → c.link l x y ≡ d.link l x y) (within : (l x y : ℕ) → d.size ≤ y → d.link l x y ≡ false) where
  successors-alike : (l x : ℕ) → successors c l x ≡ successors d l x
  successors-alike l x =
      count_beyond (λ y. c.link l x y) d.size c.size le (λ y h. same-link l x y ∙ within l x y h)
      ∙ count-ext _ _ d.size (λ y h. same-link l x y)

  meets-alike : (a : Atom) (x : ℕ) → meets c a x ≡ meets d a x
  meets-alike (atom has p m) x = same-property p x
  meets-alike (atom lacks p m) x = ap not (same-property p x)
  meets-alike (atom least l m) x = ap (leb m) (successors-alike l x)
  meets-alike (atom most l m) x = ap (λ (k : ℕ). leb k m) (successors-alike l x)
  meets-alike (atom nothing n m) x = refl

  pub fits-alike : (t : Place) (x : ℕ) → fits c t x ≡ fits d t x
  unfolding fits
  fits-alike end x = refl
  fits-alike (leaf a r) x = rw (meets-alike a x, fits-alike r x)
  fits-alike (node l s r) x =
      let e : each_linked c l x (λ y. fits c s y) ≡ each_linked d l x (λ y. fits d s y) =
      every_beyond (λ y. not (c.link l x y) || fits c s y) d.size c.size le (λ y h. rw (same-link l x y, within l x y h))
      ∙ every-ext _ _ d.size (λ y h. rw (same-link l x y, fits-alike s y)) in
      rw (e, fits-alike r x)

-- Which items fit a place by the facts in ascending order is which fit in the delivered record.
pub delivered-fits : (total : ℕ) → total ≤ 256 → (es : List Entry) → AllOf (Allowed total) es → (t : Place) (x : ℕ)
    → fits (record_in (sorted (map fact_of es))) t x ≡ fits (delivered_record total es) t x
unfolding record_in delivered_record
delivered-fits total few es A =
    fits-alike (record_in (sorted (map fact_of es))) (delivered_record total es) few
    (λ p x. any_sorted (λ f. eqb (f / 65536) (2 * p) && eqb (item_in f) x) (map fact_of es) ∙ any_gives total few p x es A)
    (λ l x y. any_sorted (λ f. eqb (f / 65536) (2 * l + 1) && (eqb (item_in f) x && eqb (target_in f) y)) (map fact_of es) ∙ any_links total few l x y es A)
    (λ l x y h. links-within total few l x y es A h)

-- ---- numbers in a table

at-next : (es : List Entry) (j : ℕ) → fact_of (nth es (j + 1)) ≡ fact_of (get_or es j zero_entry)
unfolding nth
at-next es j = let e : j + 1 ≡ suc j = omega arith in rw e

-- the numbers of a table are the facts of the entries
pub facts-listed : (t : List ℕ) (es : List Entry) → length t ≡ length es → ((j : ℕ) → j < length es → get_or t j 0 ≡ fact_of (nth es (j + 1))) → t ≡ map fact_of es
unfolding nth
facts-listed t es n h =
    ext_get_or 0 t (map fact_of es) (n ∙ sym (length-map es fact_of))
    (λ j l. h j (omega arith) ∙ at-next es j ∙ sym (get_or-map fact_of es j zero_entry 0 (omega arith)))

-- numbers below a bound are so in any order
pub small-sorted : (b : ℕ) (l : List ℕ) → ((i : ℕ) → i < length l → get_or l i 0 < b) → (i : ℕ) → i < length (sorted l) → get_or (sorted l) i 0 < b
small-sorted b l h i le =
    lt-cases (get_or (sorted l) i 0) b (λ q. q)
    (λ q.
    let p : list_any (leb b) (sorted l) ≡ true = list_any_at (leb b) (sorted l) i 0 le (le-leb q) in
    any_index (leb b) l (sym (any_sorted (leb b) l) ∙ p) (λ j m r. let s = h j m in absurd (omega tests)))

pub ascends-sorted : (l : List ℕ) → Ascends (sorted l)
ascends-sorted l = sorted-ascending l

-- ---- entries that are accepted

allowed : (total : ℕ) (e : Entry) → form_ok e ≡ true → items_ok total e ≡ true → Allowed total e
unfolding form_ok items_ok
allowed total e f i =
    let rest = cond (eqb e.kind 1) (eqb e.number 0) (eqb e.kind 8) in
    let a : (ltb 0 e.name && rest) ≡ true = and_right (eqb e.reserved 0) (ltb 0 e.name && rest) f in
    let b : rest ≡ true = and_right (ltb 0 e.name) rest a in
    let o : is_item total e.owner ≡ true = and_left (is_item total e.owner) (not (eqb e.kind 8) || is_item total e.number) i in
    let m : (not (eqb e.kind 8) || is_item total e.number) ≡ true = and_right (is_item total e.owner) (not (eqb e.kind 8) || is_item total e.number) i in
    let one : (e.kind ≡ 8 → ⊥) → e.kind ≡ 1 =
    λ z. eq-cases e.kind 1 (λ q. q) (λ q. let c : eqb e.kind 8 ≡ true = rw (ne_eqb q) at b in absurd (z (eqb-eq c))) in
    record {
      kind = one;
      item = ltb-lt (and_left (ltb 0 e.owner) (leb e.owner total) o);
      few = leb-le (and_right (ltb 0 e.owner) (leb e.owner total) o);
      other = λ z.
          let c : is_item total e.number ≡ true = rw (eq-eqb z) at m in
          (ltb-lt (and_left (ltb 0 e.number) (leb e.number total) c), leb-le (and_right (ltb 0 e.number) (leb e.number total) c));
      blank = λ z. let w = one z in let c : eqb e.number 0 ≡ true = rw (eq-eqb w) at b in eqb-eq c;
    }

behind : (P : Entry → Type 0) (e : Entry) (es : List Entry) (n : ℕ) → 1 ≤ n → P (nth (e ∷ es) (suc n)) → P (nth es n)
unfolding nth
behind P e es zero lo h = absurd (omega arith)
behind P e es (suc n) lo h = h

-- each of a list passes, by number
all-of : (P : Entry → Type 0) (es : List Entry) → ((n : ℕ) → 1 ≤ n → n ≤ length es → P (nth es n)) → AllOf P es
unfolding nth
all-of P [] h = tt
all-of P (e ∷ es) h = (h 1 (omega arith) (omega arith), all-of P es (λ n lo hi. behind P e es n lo (h (suc n) (omega arith) (omega arith))))

pub legal-allowed : (total : ℕ) (es : List Entry) → LegalRecord total es → AllOf (Allowed total) es
legal-allowed total es L = all-of (Allowed total) es (λ n lo hi. allowed total (nth es n) (L.form n lo hi) (L.items n lo hi))
