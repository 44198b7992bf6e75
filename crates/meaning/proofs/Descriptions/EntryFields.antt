-- Names and numbers of a description's entries, and of its places.
-- Assumes nothing.
use Prim.Native.Nat.{◌<◌, ◌≤◌, suc, zero, ℕ}
use lib.Dec.{eqb, ltb}
use lib.ListN.{get_or, length}
use mathlib.Core.Bool.{Bool, ◌&&◌, true}
use mathlib.Core.List.{List, [], ◌∷◌, map}
use mathlib.Core.Logic.{◌≢◌}
use mathlib.Core.Path.{◌≡◌}
use native.Mathlib.Omega.{arith}
use Rattle.base.proofs.Tests.{and_left, and_right, eq-cases, ltb-lt, ne_eqb, or_cases, tests}
use Rattle.blocks.proofs.Refusing.Bounds.{AllBounded}
use Rattle.blocks.proofs.Refusing.Legal.{form-kind}
use Rattle.blocks.specs.Entries.{form_ok, kind_ok, name_ok, nth, number_ok, zero_entry}
use Rattle.blocks.specs.Promise.{Legal}
use Rattle.blocks.specs.declared.Entry.{Entry}
use Rattle.blocks.specs.declared.Schema.TheVariants.{Description}
use Rattle.logic.proofs.NormalForm.NormalFields.{AtomFields, Fields}
use Rattle.logic.proofs.TreeRows.AllEntries.{AllRows, OfRow, tree_all}
use Rattle.logic.specs.Place.{kind_of}
use Rattle.meaning.specs.Description.{atom_of, place_of, row_of}

-- the name of an entry that is not of kind 6, and its number
pub record EntryFields (Name Number : ℕ → Type 0) (e : Entry) : Type 0 where
  pub name : e.kind ≢ 6 → Name e.name
  pub number : Number e.number

module _ (Name Number : ℕ → Type 0) where
  -- what an entry says
  pub atom-fields : (e : Entry) → EntryFields Name Number e → AtomFields Name Number (atom_of e)
  unfolding kind_of
  atom-fields e h =
      eq-cases e.kind 1 (λ z. rw z (h.name (λ y. omega arith), h.number)) (λ z₁.
      eq-cases e.kind 2 (λ z. rw z (h.name (λ y. omega arith), h.number)) (λ z₂.
      eq-cases e.kind 3 (λ z. rw z (h.name (λ y. omega arith), h.number)) (λ z₃.
      eq-cases e.kind 4 (λ z. rw z (h.name (λ y. omega arith), h.number)) (λ z₄.
      rw (ne_eqb z₁, ne_eqb z₂, ne_eqb z₃, ne_eqb z₄) tt))))

  row-fields : (e : Entry) → EntryFields Name Number e → OfRow (AtomFields Name Number) Name (row_of e)
  unfolding row_of
  row-fields e h =
      eq-cases e.kind 5
      (λ z. rw z (h.name (λ y. omega arith)))
      (λ z. rw (ne_eqb z) (atom-fields e h))

  rows-fields : (d : List Entry) → ((i : ℕ) → i < length d → EntryFields Name Number (get_or d i zero_entry)) → AllRows (AtomFields Name Number) Name (map row_of d)
  rows-fields [] h = tt
  rows-fields (e ∷ d) h = (row-fields e (h 0 (omega arith)), rows-fields d (λ i l. h (suc i) (omega arith)))

  -- the fields of a description's places are those of its entries
  pub place-fields : (d : List Entry) → ((n : ℕ) → 1 ≤ n → n ≤ length d → EntryFields Name Number (nth d n)) → (o : ℕ) → Fields Name Number (place_of d o)
  unfolding place_of nth
  place-fields d h o = tree_all (AtomFields Name Number) Name 1 (map row_of d) o (rows-fields d (λ i l. h (suc i) (omega arith) (omega arith)))

-- ---- the table of kinds

-- a name of 1 or more
abbrev pub Positive : ℕ → Type 0
Positive n = 1 ≤ n

-- a number of two bytes
abbrev pub Word : ℕ → Type 0
Word n = n < 65536

-- any number
abbrev pub Any : ℕ → Type 0
Any n = Unit {0}

-- an entry of an allowed form has a name, unless it is of kind 6
form-name : (e : Entry) → form_ok Description e ≡ true → e.kind ≢ 6 → Positive e.name
unfolding form_ok name_ok
form-name e h z =
    let rest : Bool = name_ok e.kind e.name && number_ok e.kind e.number in
    let a : rest ≡ true = and_right (eqb e.reserved 0) rest (and_right (kind_ok Description e.kind) (eqb e.reserved 0 && rest) h) in
    let n : name_ok e.kind e.name ≡ true = and_left (name_ok e.kind e.name) (number_ok e.kind e.number) a in
    or_cases (ltb 0 e.name) (eqb e.kind 9) (rw (name_ok, ne_eqb z) at n) (λ q. ltb-lt q) (λ q. absurd (omega (tests, (form-kind e h).1)))

-- the names of legal entries
pub legal-names : {d : List Entry} → Legal Description d → (n : ℕ) → 1 ≤ n → n ≤ length d → EntryFields Positive Any (nth d n)
legal-names {d} L n lo hi = record { name = form-name (nth d n) (L.form n lo hi); number = tt }

-- the names and numbers of entries whose fields fit their bytes
pub bounded_words : {d : List Entry} → AllBounded d → (n : ℕ) → 1 ≤ n → n ≤ length d → EntryFields Word Word (nth d n)
unfolding nth
bounded_words b zero lo hi = absurd (omega arith)
bounded_words b (suc k) lo hi = record { name = λ z. (b.each k (omega arith)).name; number = (b.each k (omega arith)).number }
