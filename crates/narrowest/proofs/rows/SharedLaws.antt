-- What an entry of the first place gives beside the second.
-- Assumes nothing.
use Prim.Native.Nat.{◌≤◌, ◌+◌, min, ℕ}
use lib.ListN.{length}
use mathlib.Core.List.{List, [], ◌∷◌}
use mathlib.Core.Logic.{◌≢◌}
use mathlib.Core.Option.{Option, none, some}
use mathlib.Core.Path.{◌≡◌, refl}
use native.Mathlib.Omega.{arith}
use Rattle.base.proofs.Tests.{eq-eqb, ne_eqb}
use Rattle.blocks.specs.declared.Entry.{Entry}
use Rattle.logic.specs.Laying.{leaf_rows}
use Rattle.logic.specs.Normal.{find, rank}
use Rattle.logic.specs.Place.{Kind, Place, atom, has, lacks, least, most, nothing}
use Rattle.logic.specs.Tree.{leaf_row}
use Rattle.narrowest.proofs.rows.CountLaws.{counted-none}
use Rattle.narrowest.specs.code.Forms.{option_of}
use Rattle.narrowest.specs.code.Pushes.{Counted, atom_if, leaf_numbers, row_number, shared, shared_value}
use Rattle.std.specs.Prelude.{None, Some}

-- a number that may be missing, by the code's
pub option-none : (o : Option ℕ) → None ≡ option_of o → o ≡ none
option-none none e = refl
option-none (some m) e = let z : ◌≡◌ {A = ℕ} 0 1 = cc in absurd (omega arith)

pub option_some : (o : Option ℕ) {m : ℕ} → Some m ≡ option_of o → o ≡ some m
option_some none e = let z : ◌≡◌ {A = ℕ} 0 1 = cc in absurd (omega arith)
option_some (some n) e = cc

-- where the second lists nothing, nothing is listed together
shared-none : (k : Kind) (m : ℕ) → shared_value k m none ≡ none
shared-none has m = refl
shared-none lacks m = refl
shared-none least m = let e : min m 0 ≡ 0 = omega arith in rw e refl
shared-none most m = refl
shared-none nothing m = refl

module _ {rows : List ℕ} {n : ℕ} (l : n ≤ length rows + 1) (o : ℕ) (k : Kind) where
  -- no row
  pub pushed-none : (name : ℕ) {v : Option ℕ} → v ≡ none → Counted (length rows) rows n (leaf_numbers o (atom_if k name v)) rows n
  unfolding leaf_rows
  pushed-none name e = rw e (counted-none refl l)

  -- an entry of another kind, or beside which the second lists nothing
  pub shared-other : (u : Place) (e : Entry) → e.kind ≢ rank k → Counted (length rows) rows n (leaf_numbers o (shared k u e)) rows n
  unfolding leaf_rows shared
  shared-other u e z = rw (ne_eqb z) (counted-none refl l)

  pub shared-missing : (u : Place) (e : Entry) → e.kind ≡ rank k → find k e.name u ≡ none → Counted (length rows) rows n (leaf_numbers o (shared k u e)) rows n
  unfolding shared
  shared-missing u e y z = rw (eq-eqb y, z) (pushed-none e.name (shared-none k e.number))

-- else what both list
pub shared-both : (o : ℕ) (k : Kind) (u : Place) (e : Entry) {m : ℕ} → e.kind ≡ rank k → find k e.name u ≡ some m
    → leaf_numbers o (atom_if k e.name (shared_value k e.number (some m))) ≡ leaf_numbers o (shared k u e)
unfolding shared
shared-both o k u e y z = rw (eq-eqb y, z) refl

-- one row
pub pushed-one : (o : ℕ) (k : Kind) (name m : ℕ) {v : Option ℕ} → v ≡ some m → row_number (leaf_row o (atom k name m)) ∷ [] ≡ leaf_numbers o (atom_if k name v)
unfolding leaf_rows
pushed-one o k name m e = rw e refl
