-- `note_links` meets its contract: one entry after another.
use Prim.Native.Nat.{ℕ}
use mathlib.Core.List.{List}
use mathlib.Core.Path.{refl, sym}
use native.Mathlib.Omega.{arith}
use Rattle.narrowest.proofs.rows.CountLaws.{counted-as, counted-done, counted-most, counted-none, counted-step}
use Rattle.narrowest.specs.code.Codes.{links_of}
use Rattle.narrowest.specs.code.Forms.{entries_in}
use Rattle.std.proofs.lemmas.List.Folds.{flat_map-map}
use Rattle.unfolding.specs.code.Rows.{entry_of_row}
use Rattle.narrowest.proofs.links.note_links.Goals as goal

pub loop-x-init : goal.loop-x-init
loop-x-init c = counted-none refl (omega arith)

pub note_link-n-requires : goal.note_link-n-requires
note_link-n-requires c = omega (arith, counted-most c.loop-x.invariant, c.loop-x.invariant.size)

pub loop-x-preserved : goal.loop-x-preserved
loop-x-preserved c =
    let p = c.args.pair in
    let F : ℕ → List ℕ = λ x. links_of (entries_in p.sides.first.form.rows.now) (entries_in p.sides.second.form.rows.now) p.mates.now p.sides.first.owner p.sides.second.owner (entry_of_row x) in
    counted-step F c.args.own.now c.loop-x-test.true c.loop-x.invariant c.note_link-n.ensures

pub returns : goal.returns
returns c =
    let p = c.args.pair in
    let G = links_of (entries_in p.sides.first.form.rows.now) (entries_in p.sides.second.form.rows.now) p.mates.now p.sides.first.owner p.sides.second.owner in
    let F : ℕ → List ℕ = λ x. G (entry_of_row x) in
    counted-as (counted-done F c.args.own.now c.loop-x-test.false c.loop-x.invariant) refl (sym (flat_map-map G entry_of_row c.args.own.now))
