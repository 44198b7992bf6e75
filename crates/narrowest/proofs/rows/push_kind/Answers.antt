-- `push_kind` meets its contract: what one entry after another gives.
use mathlib.Core.Path.{refl, sym}
use native.Mathlib.Omega.{arith}
use Rattle.narrowest.proofs.rows.CountLaws.{counted-as, counted-done, counted-most, counted-none, counted-step, numbers-each}
use Rattle.narrowest.specs.code.Forms.{kind_in}
use Rattle.narrowest.specs.code.Places.{place_in}
use Rattle.narrowest.specs.code.Pushes.{leaf_numbers, shared}
use Rattle.unfolding.specs.code.Rows.{entry_of_row}
use Rattle.narrowest.proofs.rows.push_kind.Goals as goal

pub loop-x-init : goal.loop-x-init
loop-x-init c = counted-none refl c.requires

pub push_shared-k-requires : goal.push_shared-k-requires
push_shared-k-requires c = omega (arith, counted-most c.loop-x.invariant, c.loop-x.invariant.size)

pub loop-x-preserved : goal.loop-x-preserved
loop-x-preserved c =
    let l = c.loop-x in
    let a = c.args in
    counted-step (λ x. leaf_numbers a.owner (shared (kind_in a.kind) (place_in a.second) (entry_of_row x))) a.own.now c.loop-x-test.true l.invariant c.push_shared-k.ensures

pub returns : goal.returns
returns c =
    let l = c.loop-x in
    let a = c.args in
    counted-as
    (counted-done (λ x. leaf_numbers a.owner (shared (kind_in a.kind) (place_in a.second) (entry_of_row x))) a.own.now c.loop-x-test.false l.invariant)
    refl (sym (numbers-each a.owner (shared (kind_in a.kind) (place_in a.second)) a.own.now))
