-- `push_whole` meets its contract: one entry after another.
use mathlib.Core.Path.{refl, sym}
use native.Mathlib.Omega.{arith}
use Rattle.narrowest.proofs.rows.CountLaws.{counted-as, counted-done, counted-most, counted-none, counted-step, numbers-each}
use Rattle.narrowest.specs.code.Codes.{whole_atoms}
use Rattle.narrowest.specs.code.Pushes.{leaf_numbers}
use Rattle.unfolding.specs.code.Rows.{entry_of_row}
use Rattle.narrowest.proofs.placed.push_whole.Goals as goal

pub loop-x-init : goal.loop-x-init
loop-x-init c = counted-none refl c.requires

pub push_own-k-requires : goal.push_own-k-requires
push_own-k-requires c = omega (arith, counted-most c.loop-x.invariant, c.loop-x.invariant.size)

pub loop-x-preserved : goal.loop-x-preserved
loop-x-preserved c =
    let a = c.args in
    counted-step (λ x. leaf_numbers a.owner (whole_atoms (entry_of_row x))) a.own.now c.loop-x-test.true c.loop-x.invariant c.push_own-k.ensures

pub returns : goal.returns
returns c =
    let a = c.args in
    counted-as (counted-done (λ x. leaf_numbers a.owner (whole_atoms (entry_of_row x))) a.own.now c.loop-x-test.false c.loop-x.invariant) refl
    (sym (numbers-each a.owner whole_atoms a.own.now))
