-- What walks along the chains of runs find, in a table of settled slots: the tags of the slots that say at least 1, and the slot of a name.
-- Assumes nothing.
use Prim.Native.Nat.{◌*◌, ◌+◌, ◌<◌, ◌≤◌, ℕ}
use lib.Dec.{leb, ltb}
use lib.ListN.{get_or-eq_default, get_or, length, set}
use mathlib.Core.Bool.{Bool, ◌&&◌}
use mathlib.Core.List.{List, Memᴰ, [], ◌∷◌}
use mathlib.Core.Logic.{◌≢◌}
use mathlib.Core.Path.{◌∙◌, ◌≡◌, ap, refl, sym}
use native.Mathlib.Omega.{arith}
use Rattle.base.proofs.Tests.{bool_cases, eq-cases, eq-eqb, lt-cases, ne_eqb}
use Rattle.base.specs.Chain.{last_where}
use Rattle.base.specs.Range.{bit}
use Rattle.compare.proofs.places.RunLaws.{listed_tags}
use Rattle.compare.proofs.specimen.SpecimenPlaces.{slot-within}
use Rattle.compare.specs.code.Tags.{tag_unless}
use Rattle.normal.specs.code.ClassRuns.{Chained}
use Rattle.logic.proofs.TreeRows.FillLaws.{filled_none, filled-one}
use Rattle.logic.specs.Filling.{Filled}
use Rattle.passes.specs.code.Keys.{key_number}
use Rattle.runs.proofs.RunsFound.{gathered-all, named-is}
use Rattle.runs.proofs.TagsListed.{tag-from}
use Rattle.runs.specs.code.Chained.{run_at}
use Rattle.runs.specs.code.Tagged.{tags_down}
use Rattle.runs.specs.code.Walked.{chain_down, chain_start, first_named, gathered, named, tags_along}
use Rattle.slots.proofs.TableSearch.{slot-key, slot-last}
use Rattle.slots.specs.code.TablePlaces.{Stood, least_in, slot_by, used_in}
use Rattle.slots.specs.code.Tables.{key_in}

-- a list without elements is empty
none-empty : (l : List ℕ) → ((x : ℕ) → Memᴰ x l → ⊥) → l ≡ []
none-empty [] f = refl
none-empty (x ∷ l) f = absurd (f x (Memᴰ.head refl))

-- past the end of the table of last slots no chain begins
start-past : (t last before : List ℕ) (r : ℕ) → length last ≤ r → chain_start t last before r ≡ 0
unfolding chain_start
start-past t last before r h =
    let z : get_or last r 0 ≡ 0 = get_or-eq_default last 0 h in
    rw z (bool_cases (ltb 0 (length t) && ltb 0 (length before)) (λ q. rw q) (λ q. rw q))

module _ {t last before : List ℕ} (S : Stood t) (C : Chained t last before) where
  in_table : used_in t < length t
  in_table = omega (arith, S.some')

  -- each slot before it has a place on the chains
  in_befores : used_in t < length before
  in_befores = omega (arith, S.some', C.befores)

  in_lasts : {j : ℕ} → 1 ≤ j → j ≤ used_in t → run_at t j < length last
  in_lasts {j} lo hi = omega (arith, S.lower j lo hi, C.wide, S.some')

  -- of a run past the table's end nothing is gathered, and no slot is of it
  gathered-past : {r : ℕ} (room : ℕ) → length last ≤ r → gathered t last before r 1 room ≡ []
  unfolding gathered chain_down tags_along
  gathered-past {r} room h = rw (start-past t last before r h) (bool_cases (leb 0 room) (λ q. rw q) (λ q. rw q))

  tags-past : {r : ℕ} → length last ≤ r → tags_down t r 1 (used_in t) ≡ []
  tags-past {r} h =
      none-empty (tags_down t r 1 (used_in t)) (λ x m.
      let T = tag-from t r 1 (used_in t) x m in
      omega (arith, T.run, h, in_lasts T.from T.to))

  -- what is gathered, of any run
  pub gathered-listed : (v : ℕ) (b : Bool) {room : ℕ} → used_in t ≤ room → gathered t last before (2 * v + bit b) 1 room ≡ listed_tags S v b
  gathered-listed v b {room} fits =
      let r : ℕ = 2 * v + bit b in
      lt-cases r (length last)
      (λ h. gathered-all t last before C.chains in_table in_befores h 1 fits)
      (λ h. gathered-past room h ∙ sym (tags-past h))

  -- the slot of a name, in any run
  named-slot : (v : ℕ) (b : Bool) {n : ℕ} → n < 65536 → named t last before (2 * v + bit b) n ≡ slot_by t v b n
  unfolding key_number named chain_down first_named
  named-slot v b {n} small =
      let r : ℕ = 2 * v + bit b in
      let key : 65536 * r + n ≡ key_number v b n = omega arith in
      lt-cases r (length last)
      (λ h.
      named-is t last before C.chains in_table in_befores h small
      ∙ ap (λ (k : ℕ). last_where (λ j. key_in (get_or t j 0)) k (used_in t)) key ∙ sym (slot-last t (used_in t) S.apart v b n small))
      (λ h.
      rw (start-past t last before r h)
      (eq-cases (slot_by t v b n) 0
      (λ z. sym z)
      (λ z.
      let k = slot-key t (used_in t) S.apart v b n z in
      let run : run_at t (slot_by t v b n) ≡ r = omega (arith, k.1, k.2) in
      absurd (omega (arith, run, h, in_lasts (omega arith) k.0)))))

  -- what a look-up finds is the slot of the name, which is one of the table, or 0
  module _ (v : ℕ) (b : Bool) {r x s : ℕ} (e : r ≡ 2 * v + bit b) (small : x < 65536) (found : s ≡ named t last before r x) where
    pub slot-found : s ≡ slot_by t v b x
    slot-found = found ∙ ap (λ (k : ℕ). named t last before k x) e ∙ named-slot v b small

    pub found-within : s < length t
    found-within = omega (arith, slot-found, slot-within S v b x, S.some')

-- ---- a name that is asked for, of slot s: that slot asks for it, or its tag is added

module _ (t : List ℕ) (s : ℕ) {lo : ℕ} (is : lo ≡ least_in t s) (x : ℕ) (order : List ℕ) (n : ℕ) where
  pub name-there : lo ≢ 0 → Filled (length order) order n (tag_unless t s x) order n
  unfolding tag_unless
  name-there z = rw (← is, ne_eqb z) (filled_none refl)

  pub name-added : {y : ℕ} → lo ≡ 0 → y ≡ 1024 * x + s → n < length order → Filled (length order) order n (tag_unless t s x) (set order n y) (n + 1)
  unfolding tag_unless
  name-added z q h = rw (← is, eq-eqb z) (filled-one refl h q)
