use Rattle.std.proofs.Common.{◌≡◌, ◌+◌, ◌-◌, ◌∙◌, refl, sym, drop, length-take, length-drop, add-zero, arith}
use Rattle.std.proofs.lemmas.List.{get_or-drop, get_or-take}
use Rattle.blocks.specs.Frame.{zero_at}
use Rattle.reading.proofs.frame.FoundLaws.{found_all, found-more}
use Rattle.reading.proofs.frame.all_zero.Goals as goal

pub loop-b-init : goal.loop-b-init
loop-b-init c = rw add-zero refl

pub loop-b-preserved : goal.loop-b-preserved
unfolding zero_at
loop-b-preserved c =
    let a = c.args in
    let i = c.loop-b.b-index in
    let n = length-take (a.to - a.from) (drop a.from a.s.now) in
    let e = get_or-take (a.to - a.from) (drop a.from a.s.now) i 0 (omega arith) ∙ get_or-drop a.from a.s.now i 0 in
    let next : a.from + (i + 1) ≡ a.from + i + 1 = omega arith in
    rw (next, e) (c.loop-b.invariant ∙ found-more (zero_at a.s.now) (a.from + i) a.to c.loop-b.found (omega arith))

pub returns : goal.returns
returns c =
    let a = c.args in
    let n = length-take (a.to - a.from) (drop a.from a.s.now) in
    let d = length-drop a.from a.s.now in
    sym (c.loop-b.invariant ∙ found_all (zero_at a.s.now) (a.from + c.loop-b.b-index) a.to c.loop-b.found (omega arith))
