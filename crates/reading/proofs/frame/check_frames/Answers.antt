use Rattle.std.proofs.Common.{◌∙◌, sym, ap, ◌<◌, arith}
use Rattle.blocks.proofs.Refusing.BlockLaws.{blocks_end, blocks-found, blocks_more}
use Rattle.blocks.specs.Reading.{answer}
use Rattle.reading.proofs.frame.check_frames.Goals as goal

pub loop-i-preserved : goal.loop-i-preserved
loop-i-preserved g c =
    let l : c.loop-i.i < c.args.n = omega (arith, c.if-n-i.false) in
    record {
      within = omega (arith, l);
      rest = c.loop-i.invariant.rest ∙ blocks_more _ _ _ _ l c.block_refusal.ensures c.in_default.is;
    }

pub returns-then-n-i : goal.returns-then-n-i
returns-then-n-i g c = ap (answer c.args.input tt) (sym (c.loop-i.invariant.rest ∙ blocks_end _ _ _ _ c.if-n-i.true))

pub returns-in-Some : goal.returns-in-Some
returns-in-Some g c =
    let l : c.loop-i.i < c.args.n = omega (arith, c.if-n-i.false) in
    ap (answer c.args.input tt) (sym (c.loop-i.invariant.rest ∙ blocks-found _ _ _ _ l c.block_refusal.ensures c.in-Some.is))
