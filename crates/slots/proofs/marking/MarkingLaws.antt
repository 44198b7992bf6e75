-- The marks of places: what a slot adds to them, and that they stay right while upper bounds change.
-- Assumes nothing.
use Rattle.std.proofs.Common.{◌≡◌, ◌∙◌, ◌≢◌, ℕ, suc, zero, ◌+◌, ◌-◌, ◌/◌, ◌%◌, ◌<◌, ◌≤◌, Bool, ◌&&◌, ◌||◌, true, false, not, eqb, ltb, List, [], ◌∷◌, ◌++◌, get_or, length, set, replicate, ap, sym, refl, arith}
use lib.ListN.{get_or-eq_default, length-replicate}
use lib.Seq.{get_or-set_other, get_or-set_same}
use Rattle.std.proofs.lemmas.List.{get_or-replicate}
use Rattle.base.proofs.Tests.{and_right, bool_cases, eq-cases, eqb-eq, eqb-self, eqb-sym, lt-cases, ne_eqb, tests}
use Rattle.pairs.proofs.SidesLaws.{marks-beside, marks-bucket, marks-empty, marks-join, marks-none, marks-same, marks-when}
use Rattle.pairs.specs.Pairs.{pair_count}
use Rattle.pairs.specs.code.Index.{PairsIndexed, bucket_of}
use Rattle.pairs.specs.code.Sides.{Marks, joined, no_sides}
use Rattle.pairs.specs.declared.sides.Sides.{Sides}
use Rattle.passes.specs.code.Restrict.{has_at}
use Rattle.passes.specs.code.Slots.{Slot, same_key, settled, slot}
use Rattle.slots.proofs.excluding.ExcludingLaws.{same-property}
use Rattle.slots.proofs.slots.TableLaws.{slots-last}
use Rattle.slots.specs.code.Marking.{MarkedBy, Unmarked, marked_slot}
use Rattle.slots.specs.code.Tables.{Settling, key_in, low_part, slot_in, slots_from, slots_in}

-- ---- tables of marks

-- none is marked yet
pub unmarked-new : (P : List ℕ) (n k : ℕ) {s : Sides} → s ≡ no_sides → (pair_count P ≢ 0 → n < k) → Unmarked P n (replicate k s)
unmarked-new P n k {s} e room =
    rw e
    (record {
      none = λ v. lt-cases v k
          (λ b. get_or-replicate {A = Sides} k v no_sides no_sides b)
          (λ b. get_or-eq_default (replicate k no_sides) no_sides {n = v} (omega (arith, length-replicate {A = Sides} k no_sides)));
      room = λ z. omega (arith, room z, length-replicate {A = Sides} k no_sides);
    })

pub unmarked-less : {P : List ℕ} {n m : ℕ} {t : List Sides} → m ≤ n → Unmarked P n t → Unmarked P m t
unmarked-less h U = record { none = U.none; room = λ z. omega (arith, U.room z) }

-- a list without a pair needs no marks
pub marked-empty : {P : List ℕ} {n : ℕ} {t : List Sides} (ss : List Slot) → pair_count P ≡ 0 → Unmarked P n t → MarkedBy P ss t
marked-empty {P} ss z U = record { each = λ v. rw (U.none v) (marks-empty P z) }

-- nor do no slots
pub marked-start : {P : List ℕ} {n : ℕ} {t : List Sides} → Unmarked P n t → MarkedBy P [] t
unfolding has_at
marked-start {P} U = record { each = λ v. rw (U.none v) (marks-same P (λ q. refl) (marks-none P)) }

-- ---- one slot more

or-assoc : (a b c : Bool) → (a || (b || c)) ≡ ((a || b) || c)
or-assoc true b c = refl
or-assoc false b c = refl

-- a place has a property by the slots before, or by this one
has-more : (ss : List Slot) (x : Slot) (v q : ℕ) → has_at (ss ++ (x ∷ [])) v q ≡ (has_at ss v q || has_at (x ∷ []) v q)
unfolding has_at
has-more [] x v q = refl
has-more (slot u d n lo hi ∷ ss) x v q =
    ap (λ (b : Bool). (same_key u d n v false q && not (eqb lo 0)) || b) (has-more ss x v q)
    ∙ or-assoc (same_key u d n v false q && not (eqb lo 0)) (has_at ss v q) (has_at (x ∷ []) v q)

turned : (p a b c : Bool) → (((a && (p && b)) && c) || false) ≡ (((p && c) && a) && b)
turned false true b c = refl
turned false false b c = refl
turned true false b true = refl
turned true false b false = refl
turned true true true true = refl
turned true true true false = refl
turned true true false true = refl
turned true true false false = refl

-- what a slot says of a place and a property
module _ (x : ℕ) where
  abbrev gives : Bool
  gives = ltb (key_in x % 131072) 65536 && not (eqb (low_part x) 0)

  of-property : not (eqb (key_in x / 65536 % 2) 1) ≡ ltb (key_in x % 131072) 65536
  of-property =
      bool_cases (ltb (key_in x % 131072) 65536)
      (λ q. let l : key_in x % 131072 < 65536 = omega (tests, q) in rw (q, ne_eqb (λ (e : key_in x / 65536 % 2 ≡ 1). omega arith)) refl)
      (λ q. let l : key_in x / 65536 % 2 ≡ 1 = omega (tests, q) in rw (q, l) refl)

  has-one : (v q : ℕ) → has_at (slot_in x ∷ []) v q ≡ ((gives && eqb v (key_in x / 131072)) && eqb q (key_in x % 65536))
  unfolding has_at slot_in
  has-one v q =
      rw (slot_in, has_at, same-property (key_in x / 131072) (eqb (key_in x / 65536 % 2) 1) (key_in x % 65536) v q, of-property, eqb-sym (key_in x % 65536) q)
      (turned (ltb (key_in x % 131072) 65536) (eqb v (key_in x / 131072)) (eqb q (key_in x % 65536)) (not (eqb (low_part x) 0)))

module _ (P : List ℕ) (x : ℕ) where
  -- what this slot gives a place
  given : (v : ℕ) → Marks P (λ q. (gives x && eqb v (key_in x / 131072)) && eqb q (key_in x % 65536)) no_sides → Marks P (has_at (slot_in x ∷ []) v) no_sides
  given v M = marks-same P (λ q. sym (has-one x v q)) M

  more : (ss : List Slot) (v : ℕ) {s : Sides} → Marks P (λ q. has_at ss v q || has_at (slot_in x ∷ []) v q) s → Marks P (has_at (ss ++ (slot_in x ∷ [])) v) s
  more ss v M = marks-same P (λ q. sym (has-more ss (slot_in x) v q)) M

module _ {P index : List ℕ} (I : PairsIndexed P index) (x : ℕ) {ss : List Slot} {t : List Sides} (M : MarkedBy P ss t) where
  -- it adds nothing where it is not that of a property which the place has and some pair may have
  pub slot_unmarked : marked_slot index x ≡ false → MarkedBy P (ss ++ (slot_in x ∷ [])) t
  unfolding marked_slot
  slot_unmarked f =
      let test : (not (eqb (get_or index (bucket_of (key_in x % 65536)) 0) 0) && gives x) ≡ false = f in
      record {
        each = λ v.
            let nothing : Marks P (λ q. (gives x && eqb v (key_in x / 131072)) && eqb q (key_in x % 65536)) no_sides =
            bool_cases (eqb (get_or index (bucket_of (key_in x % 65536)) 0) 0)
            (λ z. marks-when P (gives x && eqb v (key_in x / 131072)) (marks-bucket I (key_in x % 65536) (eqb-eq z)))
            (λ z. let g : gives x ≡ false = rw z at test in rw g (marks-none P)) in
            more P x ss v (marks-beside P (M.each v) (given P x v nothing));
      }

  -- else its place gets the pairs of the property
  pub slot_marked : {v : ℕ} {s : Sides} → marked_slot index x ≡ true → v ≡ key_in x / 131072 → v < length t → Marks P (λ q. eqb q (key_in x % 65536)) s
      → MarkedBy P (ss ++ (slot_in x ∷ [])) (set t v (joined (get_or t v no_sides) s))
  unfolding marked_slot
  slot_marked {v} {s} f e room N =
      let g : gives x ≡ true = and_right (not (eqb (get_or index (bucket_of (key_in x % 65536)) 0) 0)) (gives x) f in
      let y = joined (get_or t v no_sides) s in
      record {
        each = λ w. eq-cases w v
            (λ z.
            let own : (q : ℕ) → eqb q (key_in x % 65536) ≡ has_at (slot_in x ∷ []) v q = λ q. sym (has-one x v q ∙ rw (g, e, eqb-self (key_in x / 131072)) refl) in
            rw (z, get_or-set_same t v y no_sides room) (more P x ss v (marks-join P (M.each v) (marks-same P own N))))
            (λ z.
            let other : eqb w (key_in x / 131072) ≡ false = rw (← e) (ne_eqb z) in
            let none : (gives x && eqb w (key_in x / 131072)) ≡ false = rw (g, other) refl in
            let nothing : Marks P (λ q. (gives x && eqb w (key_in x / 131072)) && eqb q (key_in x % 65536)) no_sides = rw none (marks-none P) in
            rw (get_or-set_other t v w y no_sides z) (more P x ss w (marks-beside P (M.each w) (given P x w nothing))));
      }

-- the slots in turn
pub marked-more : {P : List ℕ} (t : List ℕ) {m : List Sides} (s : ℕ) → 1 ≤ s → MarkedBy P (slots_in t (s - 1) ++ (slot_in (get_or t s 0) ∷ [])) m
    → MarkedBy P (slots_in t (s + 1 - 1)) m
marked-more t s lo M =
    let one : 1 + (s - 1) ≡ s = omega arith in
    let up : s + 1 - 1 ≡ suc (s - 1) = omega arith in
    rw (up, slots-last t 1 (s - 1), one) M

-- ---- the same keys and lower bounds

has_same : (o t : List ℕ) (v q i n : ℕ) → ((j : ℕ) → key_in (get_or t j 0) ≡ key_in (get_or o j 0)) → ((j : ℕ) → low_part (get_or t j 0) ≡ low_part (get_or o j 0))
    → has_at (slots_from o i n) v q ≡ has_at (slots_from t i n) v q
unfolding has_at slots_from slot_in
has_same o t v q i zero k l = refl
has_same o t v q i (suc n) k l = rw (k i, l i, has_same o t v q (suc i) n k l)

pub marked-same : {P : List ℕ} (o t : List ℕ) {m : List Sides} (used : ℕ) → ((j : ℕ) → key_in (get_or t j 0) ≡ key_in (get_or o j 0))
    → ((j : ℕ) → low_part (get_or t j 0) ≡ low_part (get_or o j 0)) → MarkedBy P (slots_in o used) m → MarkedBy P (slots_in t used) m
marked-same {P} o t used k l M = record { each = λ v. marks-same P (λ q. has_same o t v q 1 used k l) (M.each v) }

-- settled slots too
has-settled : (k : ℕ) (ss : List Slot) (v q : ℕ) → has_at ss v q ≡ has_at (settled k ss) v q
unfolding has_at settled
has-settled k [] v q = refl
has-settled k (slot u d n lo hi ∷ ss) v q = ap (λ (b : Bool). (same_key u d n v false q && not (eqb lo 0)) || b) (has-settled (suc k) ss v q)

pub marked-settled : {P o t bad full : List ℕ} {m : List Sides} {used : ℕ} → Settling o used 0 t bad full → MarkedBy P (slots_in o used) m
    → MarkedBy P (slots_in t used) m
marked-settled {P} {o} {t} {used = used} S M =
    let z : used - 0 ≡ used = omega arith in
    let here : slots_in t used ≡ settled 1 (slots_in o used) = rw z at S.above in
    record { each = λ v. rw here (marks-same P (λ q. has-settled 1 (slots_in o used) v q) (M.each v)) }
