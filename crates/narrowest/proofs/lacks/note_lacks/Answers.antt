-- `note_lacks` meets its contract: one entry after another.
use Prim.Native.Nat.{ℕ}
use mathlib.Core.List.{List}
use mathlib.Core.Path.{refl, sym}
use native.Mathlib.Omega.{arith}
use Rattle.narrowest.proofs.rows.CountLaws.{counted-as, counted-done, counted-most, counted-none, counted-step}
use Rattle.narrowest.specs.code.Lacks.{lacks_of}
use Rattle.narrowest.specs.code.Places.{place_in}
use Rattle.std.proofs.lemmas.List.Folds.{flat_map-map}
use Rattle.unfolding.specs.code.Rows.{entry_of_row}
use Rattle.narrowest.proofs.lacks.note_lacks.Goals as goal

pub loop-x-init : goal.loop-x-init
loop-x-init c = counted-none refl (omega arith)

pub note_entry-n-requires : goal.note_entry-n-requires
note_entry-n-requires c = omega (arith, counted-most c.loop-x.invariant, c.loop-x.invariant.size)

pub loop-x-preserved : goal.loop-x-preserved
loop-x-preserved c =
    let a = c.args in
    let F : ℕ → List ℕ = λ x. lacks_of a.exclusions.pairs.now (place_in a.sides.first) (place_in a.sides.second) (entry_of_row x) in
    counted-step F a.own.now c.loop-x-test.true c.loop-x.invariant c.note_entry-n.ensures

pub returns : goal.returns
returns c =
    let a = c.args in
    let F : ℕ → List ℕ = λ x. lacks_of a.exclusions.pairs.now (place_in a.sides.first) (place_in a.sides.second) (entry_of_row x) in
    counted-as (counted-done F a.own.now c.loop-x-test.false c.loop-x.invariant) refl
    (sym (flat_map-map (lacks_of a.exclusions.pairs.now (place_in a.sides.first) (place_in a.sides.second)) entry_of_row a.own.now))
