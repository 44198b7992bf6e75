-- `note_partners` meets its contract: one property after another.
use mathlib.Core.Path.{ap, sym}
use native.Mathlib.Omega.{arith}
use lib.ListN.{length}
use Prim.Native.Nat.{ℕ}
use mathlib.Core.List.{List}
use Rattle.narrowest.proofs.lacks.NoteLaws.{part-done, part-more, part-start}
use Rattle.narrowest.proofs.rows.CountLaws.{counted-most}
use Rattle.narrowest.specs.code.Lacks.{lack_if}
use Rattle.narrowest.specs.code.Places.{place_in}
use Rattle.std.specs.List.{flat_map}
use Rattle.narrowest.proofs.lacks.note_partners.Goals as goal

pub loop-p-init : goal.loop-p-init
loop-p-init c =
    let a = c.args in
    part-start c.requires (ap (flat_map (lack_if a.exclusions.pairs.now (place_in a.sides.first) (place_in a.sides.second))) (sym c.excluding-rest.ensures))

pub note_lack-k-requires : goal.note_lack-k-requires
note_lack-k-requires c = let p = c.loop-p.invariant.counted in omega (arith, counted-most p, p.size)

pub loop-p-preserved : goal.loop-p-preserved
loop-p-preserved c =
    let a = c.args in
    let F : ℕ → List ℕ = lack_if a.exclusions.pairs.now (place_in a.sides.first) (place_in a.sides.second) in
    part-more (F c.in-Some.p.0) c.loop-p.invariant (ap (flat_map F) c.in-Some.ensures.steps) c.note_lack-k.ensures

pub loop-p-smaller : goal.loop-p-smaller
loop-p-smaller c = omega (arith, ap length c.in-Some.ensures.steps)

pub returns : goal.returns
returns c =
    let a = c.args in
    part-done c.loop-p.invariant (ap (flat_map (lack_if a.exclusions.pairs.now (place_in a.sides.first) (place_in a.sides.second))) c.in_default.ensures.steps.0)
