-- What a normal form is.
-- Assumes nothing.
use Rattle.std.specs.Prelude.{ℕ, eqb, Bool, ◌&&◌, false, not, true, ◌⊎◌, ◌≡◌}
use Rattle.std.proofs.Math.Option.{some}
use Rattle.logic.specs.Background.{Background}
use Rattle.logic.specs.Normal.{at_most, before, bottom, clash, excluded, find, is_end, rank, sub, supports}
use Rattle.logic.specs.Place.{Atom, Kind, Place, atom, has, lacks, least, most, nothing}
use Rattle.logic.specs.Tree.{end, leaf, node}

-- each entry of a place stands after kind a and name n
abbrev pub Above : ℕ → ℕ → Place → Type 0
Above a n end = Unit {0}
Above a n (leaf (atom k n' m) r) = (before a n (rank k) n' ≡ true) × Above a n r
Above a n (node l s r) = (before a n 5 l ≡ true) × Above a n r

-- the entries of a place ascend by kind and name, so that each kind and name stands once; no 'every' owns nothing
abbrev pub Ascending : Place → Type 0
Ascending end = Unit {0}
Ascending (leaf (atom k n m) r) = Above (rank k) n r × Ascending r
Ascending (node l s r) = Above 5 l r × (is_end s ≡ false) × Ascending r

-- an atom that a normal place t may list: a property has no number, no lack is implied, at least 0 and an at most that a cap says go
abbrev pub telling : Background → Place → Atom → Bool
telling b t (atom has p m) = eqb m 0
telling b t (atom lacks p m) = eqb m 0 && not (excluded b p t)
telling b t (atom least l m) = not (eqb m 0)
telling b t (atom most l m) = not (at_most m (b.cap l))
telling b t (atom nothing n m) = false

-- what the place lists tells something, and nothing that it lists rules another atom out
abbrev pub Clean : Background → Place → Type 0
Clean b t = (k : Kind) (n m : ℕ) → find k n t ≡ some m → (clash b t (atom k n m) ≡ false) × (telling b t (atom k n m) ≡ true)

-- A normal place that is alive: no 'every' of a link with at most 0, and the places below are normal and alive too.
pub data Canonical (b : Background) : Place → Type 0 where
  canonical : {t : Place} → Ascending t → Clean b t
      → ((l : ℕ) → is_end (sub l t) ≡ false → supports b t (atom most l 0) ≡ false)
      → ((l : ℕ) → is_end (sub l t) ≡ false → Canonical b (sub l t))
      → Canonical b t

-- the normal places: the one that nothing fits, and the others
abbrev pub Normal : Background → Place → Type 0
Normal b t = (t ≡ bottom) ⊎ Canonical b t
