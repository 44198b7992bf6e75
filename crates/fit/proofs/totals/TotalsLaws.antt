-- The table of totals, entry by entry: one that is no group changes nothing, and a group adds its items to the row of its owner and link,
-- which is there or new. A pair without a row has no items.
-- Assumes nothing.
use Prim.Native.Nat.{◌+◌, ◌<◌, ◌≤◌, suc, zero, ℕ}
use lib.Dec.{eqb}
use lib.ListN.{get_or, length, set}
use lib.Seq.{get_or-set_other, get_or-set_same}
use mathlib.Core.List.{List}
use mathlib.Core.Logic.{◌≢◌}
use mathlib.Core.Path.{◌∙◌, ◌≡◌, ap, refl, sym}
use native.Mathlib.Numerals.{add-one}
use native.Mathlib.Omega.{arith}
use Rattle.base.proofs.Tests.{bool_cases, eq-cases, eq-eqb, eqb-eq}
use Rattle.base.specs.Range.{bit, sum}
use Rattle.blocks.proofs.Refusing.SingleLaws.{adds-cases, group-adds, items_more, items-none}
use Rattle.blocks.specs.Entries.{nth}
use Rattle.blocks.specs.Single.{items_up_to}
use Rattle.blocks.specs.declared.Entry.{Entry}
use Rattle.fit.specs.Totals.{GroupAt, RowAt, TotalsOf, groups_up_to, items_in, link_in, owner_in}

-- ---- no rows

pub totals-start : (es : List Entry) (rows : List ℕ) → TotalsOf es 0 rows 0
totals-start es rows = record {
  all = λ k o l g. absurd (omega (arith, g.from, g.to));
  pair = λ r o l w. absurd (omega (arith, w.from, w.to));
  apart = λ i j o l v w. absurd (omega (arith, v.from, v.to));
  number = λ r o l w. absurd (omega (arith, w.from, w.to));
}

-- ---- groups, one entry more

module _ (es : List Entry) (n : ℕ) where
  group-later : {o l k : ℕ} → GroupAt es n o l k → GroupAt es (suc n) o l k
  group-later g = record { from = g.from; to = omega (arith, g.to); kind = g.kind; owner = g.owner; link = g.link }

  group-before : {o l k : ℕ} → k ≢ suc n → GroupAt es (suc n) o l k → GroupAt es n o l k
  group-before z g = record { from = g.from; to = omega (arith, g.to); kind = g.kind; owner = g.owner; link = g.link }

-- an entry that is no group of an owner and a link adds nothing to their items
items-same : (es : List Entry) (n o l : ℕ) → (GroupAt es (suc n) o l (suc n) → ⊥) → items_up_to es o l (suc n) ≡ items_up_to es o l n
items-same es n o l never =
    adds-cases o l (nth es (suc n))
    (λ z. omega (arith, items_more es o l n))
    (λ q a b. absurd (never (record { from = omega arith; to = omega arith; kind = eqb-eq q; owner = sym a; link = sym b })))

-- where no group is of an owner and a link, they have no items
pub items-absent : (es : List Entry) (o l n : ℕ) → ((k : ℕ) → GroupAt es n o l k → ⊥) → items_up_to es o l n ≡ 0
items-absent es o l zero never = items-none es o l
items-absent es o l (suc n) never = items-same es n o l (never (suc n)) ∙ items-absent es o l n (λ k g. never k (group-later es n g))

-- ---- a pair without a row has no items

module _ {es : List Entry} {n : ℕ} {rows : List ℕ} {used : ℕ} (T : TotalsOf es n rows used) where
  pub without-row : (o l : ℕ) → ((r : ℕ) → RowAt rows used o l r → ⊥) → items_up_to es o l n ≡ 0
  without-row o l none = items-absent es o l n (λ k g. let w = T.all k o l g in none w.0 w.1)

  -- ---- an entry that is no group

  pub totals-other : (nth es (suc n)).kind ≢ 7 → TotalsOf es (suc n) rows used
  totals-other other =
      let old : (k o l : ℕ) → GroupAt es (suc n) o l k → GroupAt es n o l k =
      λ k o l g. group-before es n (λ z. other (rw z at g.kind)) g in
      record {
        all = λ k o l g. T.all k o l (old k o l g);
        pair = λ r o l w. let g = T.pair r o l w in (g.0, group-later es n g.1);
        apart = T.apart;
        number = λ r o l w. T.number r o l w ∙ sym (items-same es n o l (λ g. other g.kind));
      }

  -- ---- a group

  module _ {o l : ℕ} (here : GroupAt es (suc n) o l (suc n)) where
    -- it adds its items to those of its owner and link, and to no others
    adds-own : items_up_to es o l (suc n) ≡ items_up_to es o l n + suc (nth es (suc n)).number
    adds-own =
        let e = nth es (suc n) in
        items_more es o l n ∙ ap (λ (x : ℕ). items_up_to es o l n + x) (rw (← here.owner, ← here.link) (group-adds e (eq-eqb here.kind)))

    adds-other : (o' l' : ℕ) → (o ≡ o' → l ≡ l' → ⊥) → items_up_to es o' l' (suc n) ≡ items_up_to es o' l' n
    adds-other o' l' never = items-same es n o' l' (λ g. never (sym here.owner ∙ g.owner) (sym here.link ∙ g.link))

    -- its row is there
    module _ {r : ℕ} (row : RowAt rows used o l r) (long : r < length rows) (y : ℕ) (own : owner_in y ≡ o) (link : link_in y ≡ l)
        (sum : items_in y ≡ items_in (get_or rows r 0) + suc (nth es (suc n)).number) where
      -- the row of a pair, after as before
      row-still : {o' l' i : ℕ} → RowAt rows used o' l' i → RowAt (set rows r y) used o' l' i
      row-still {o'} {l'} {i} w =
          eq-cases i r
          (λ z.
          let same : get_or (set rows r y) i 0 ≡ y = rw z (get_or-set_same rows r y 0 long) in
          let at = rw z at w in
          record { from = w.from; to = w.to; owner = ap owner_in same ∙ own ∙ sym row.owner ∙ at.owner; link = ap link_in same ∙ link ∙ sym row.link ∙ at.link })
          (λ z.
          let same = get_or-set_other rows r i y 0 z in
          record { from = w.from; to = w.to; owner = ap owner_in same ∙ w.owner; link = ap link_in same ∙ w.link })

      row-was : {o' l' i : ℕ} → RowAt (set rows r y) used o' l' i → RowAt rows used o' l' i
      row-was {o'} {l'} {i} w =
          eq-cases i r
          (λ z.
          let same : get_or (set rows r y) i 0 ≡ y = rw z (get_or-set_same rows r y 0 long) in
          let a : o ≡ o' = sym own ∙ sym (ap owner_in same) ∙ w.owner in
          let b : l ≡ l' = sym link ∙ sym (ap link_in same) ∙ w.link in
          rw (z, ← a, ← b) row)
          (λ z.
          let same = sym (get_or-set_other rows r i y 0 z) in
          record { from = w.from; to = w.to; owner = ap owner_in same ∙ w.owner; link = ap link_in same ∙ w.link })

      still-number : (i o' l' : ℕ) → RowAt (set rows r y) used o' l' i → items_in (get_or (set rows r y) i 0) ≡ items_up_to es o' l' (suc n)
      still-number i o' l' w =
          let was = row-was w in
          eq-cases i r
          (λ z.
          let at = rw z at was in
          let a : o ≡ o' = sym row.owner ∙ at.owner in
          let b : l ≡ l' = sym row.link ∙ at.link in
          let same : get_or (set rows r y) i 0 ≡ y = rw z (get_or-set_same rows r y 0 long) in
          rw (← a, ← b) (ap items_in same ∙ sum ∙ ap (λ (x : ℕ). x + suc (nth es (suc n)).number) (T.number r o l row) ∙ sym adds-own))
          (λ z.
          ap items_in (get_or-set_other rows r i y 0 z) ∙ T.number i o' l' was
          ∙ sym (adds-other o' l' (λ a b. z (T.apart i r o' l' was (rw (a, b) at row)))))

      pub totals-found : TotalsOf es (suc n) (set rows r y) used
      totals-found = record {
        all = λ k o' l' g.
            eq-cases k (suc n)
            (λ z. let at = rw z at g in (r, rw (← at.owner, ← at.link) (row-still (rw (here.owner, here.link) row))))
            (λ z. let w = T.all k o' l' (group-before es n z g) in (w.0, row-still w.1));
        pair = λ i o' l' w. let g = T.pair i o' l' (row-was w) in (g.0, group-later es n g.1);
        apart = λ i j o' l' v w. T.apart i j o' l' (row-was v) (row-was w);
        number = still-number;
      }

    -- its row is new
    module _ (none : (r : ℕ) → RowAt rows used o l r → ⊥) (room : suc used < length rows) (y : ℕ) (own : owner_in y ≡ o) (link : link_in y ≡ l)
        (sum : items_in y ≡ suc (nth es (suc n)).number) where
      last_row : get_or (set rows (suc used) y) (suc used) 0 ≡ y
      last_row = get_or-set_same rows (suc used) y 0 room

      new_row : RowAt (set rows (suc used) y) (suc used) o l (suc used)
      new_row = record { from = omega arith; to = omega arith; owner = ap owner_in last_row ∙ own; link = ap link_in last_row ∙ link }

      row_stays : {o' l' i : ℕ} → RowAt rows used o' l' i → RowAt (set rows (suc used) y) (suc used) o' l' i
      row_stays {o'} {l'} {i} w =
          let same = get_or-set_other rows (suc used) i y 0 (λ z. omega (arith, w.to)) in
          record { from = w.from; to = omega (arith, w.to); owner = ap owner_in same ∙ w.owner; link = ap link_in same ∙ w.link }

      -- a row is an old one, or the new one, which is that of the group
      row-cases : {A : Type 0} {o' l' i : ℕ} → RowAt (set rows (suc used) y) (suc used) o' l' i → (RowAt rows used o' l' i → A)
          → (i ≡ suc used → o ≡ o' → l ≡ l' → A) → A
      row-cases {A} {o'} {l'} {i} w old new =
          eq-cases i (suc used)
          (λ z. let at = rw z at w in new z (sym own ∙ sym (ap owner_in last_row) ∙ at.owner) (sym link ∙ sym (ap link_in last_row) ∙ at.link))
          (λ z.
          let same = sym (get_or-set_other rows (suc used) i y 0 z) in
          old (record { from = w.from; to = omega (arith, w.to); owner = ap owner_in same ∙ w.owner; link = ap link_in same ∙ w.link }))

      pub totals-new : TotalsOf es (suc n) (set rows (suc used) y) (suc used)
      totals-new = record {
        all = λ k o' l' g.
            eq-cases k (suc n)
            (λ z. let at = rw z at g in (suc used, rw (← at.owner, ← at.link, here.owner, here.link) new_row))
            (λ z. let w = T.all k o' l' (group-before es n z g) in (w.0, row_stays w.1));
        pair = λ i o' l' w. row-cases w
            (λ v. let g = T.pair i o' l' v in (g.0, group-later es n g.1))
            (λ z a b. (suc n, rw (← a, ← b) here));
        apart = λ i j o' l' v w. row-cases v
            (λ p. row-cases w (λ q. T.apart i j o' l' p q) (λ z a b. absurd (none i (rw (a, b) p))))
            (λ z a b. row-cases w (λ q. absurd (none j (rw (a, b) q))) (λ z' c d. z ∙ sym z'));
        number = λ i o' l' w. row-cases w
            (λ v.
            ap items_in (get_or-set_other rows (suc used) i y 0 (λ z. omega (arith, v.to))) ∙ T.number i o' l' v
            ∙ sym (adds-other o' l' (λ a b. none i (rw (a, b) v))))
            (λ z a b.
            let all : items_up_to es o l (suc n) ≡ suc (nth es (suc n)).number = omega (arith, adds-own, without-row o l none) in
            rw (z, ← a, ← b) (ap items_in last_row ∙ sum ∙ sym all));
      }

-- ---- counting the groups

pub groups_none : (es : List Entry) → groups_up_to es 0 ≡ 0
unfolding groups_up_to sum
groups_none es = refl

-- one entry more, counted where it is one
pub groups-next : (es : List Entry) (n : ℕ) {e : Entry} {a b : ℕ} → e ≡ nth es (n + 1) → a ≡ groups_up_to es n → b ≡ a + bit (eqb e.kind 7) → b ≡ groups_up_to es (n + 1)
unfolding groups_up_to sum
groups-next es n at h m = m ∙ rw (h, at, add-one)

pub groups-few : (es : List Entry) (n : ℕ) → groups_up_to es n ≤ n
unfolding groups_up_to sum
groups-few es zero = omega arith
groups-few es (suc n) = bool_cases (eqb (nth es (suc n)).kind 7) (λ q. rw q (omega (arith, groups-few es n))) (λ q. rw q (omega (arith, groups-few es n)))
