-- Names and numbers of a normal form: what holds of those of the description holds of those of its normal form. Kinds 1 and 2 have no
-- number there, kind 6 neither name nor number.
-- Assumes nothing.
use Prim.Native.Nat.{ℕ}
use mathlib.Core.Bool.{false}
use mathlib.Core.Path.{◌≡◌, refl}
use Rattle.base.proofs.Tests.{both_ways}
use Rattle.logic.proofs.NormalForm.NormalAtoms.{nf-all}
use Rattle.logic.proofs.TreeRows.AllEntries.{AllEntries}
use Rattle.logic.specs.Background.{Background}
use Rattle.logic.specs.Normal.{clash, nf, stored}
use Rattle.logic.specs.Place.{Atom, Kind, Place, atom, has, lacks, least, most, nothing}

module _ (Name Number : ℕ → Type 0) where
  -- the name and the number of an atom; kind 6 has none
  abbrev pub AtomFields : Atom → Type 0
  AtomFields (atom has p m) = Name p × Number m
  AtomFields (atom lacks p m) = Name p × Number m
  AtomFields (atom least l m) = Name l × Number m
  AtomFields (atom most l m) = Name l × Number m
  AtomFields (atom nothing n m) = Unit {0}

  -- the fields of all entries of a place
  abbrev pub Fields : Place → Type 0
  Fields t = AllEntries AtomFields Name t

  -- an atom as a normal form lists it: a property has no number, kind 6 neither name nor number
  abbrev pub Stored : Atom → Type 0
  Stored (atom has p m) = Name p × (m ≡ 0)
  Stored (atom lacks p m) = Name p × (m ≡ 0)
  Stored (atom least l m) = Name l × Number m
  Stored (atom most l m) = Name l × Number m
  Stored (atom nothing n m) = (n ≡ 0) × (m ≡ 0)

  stored-atom : (b : Background) (t : Place) (k : Kind) (n m : ℕ) → AtomFields (atom k n m) → clash b t (atom k n m) ≡ false → Stored (atom k n (stored k m))
  stored-atom b t has n m h z = (h.0, refl)
  stored-atom b t lacks n m h z = (h.0, refl)
  stored-atom b t least n m h z = h
  stored-atom b t most n m h z = h
  stored-atom b t nothing n m h z = both_ways refl z

  stored-fields : (k : Kind) (n m : ℕ) → Number 0 → AtomFields (atom k n m) → AtomFields (atom k n (stored k m))
  stored-fields has n m none h = (h.0, none)
  stored-fields lacks n m none h = (h.0, none)
  stored-fields least n m none h = h
  stored-fields most n m none h = h
  stored-fields nothing n m none h = tt

  -- the atoms of a normal form
  pub nf-stored : Number 0 → (b : Background) (d : Place) → Fields d → AllEntries Stored Name (nf b d)
  nf-stored none b d e = nf-all Stored Name b AtomFields (refl, refl) (λ l h. (h, none)) (stored-atom b) d e

  -- the fields of a normal form
  pub nf-fields : Number 0 → (b : Background) (d : Place) → Fields d → Fields (nf b d)
  nf-fields none b d e = nf-all AtomFields Name b AtomFields tt (λ l h. (h, none)) (λ t k n m h z. stored-fields k n m none h) d e
