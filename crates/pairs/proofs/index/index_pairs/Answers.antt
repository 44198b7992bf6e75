use Rattle.std.proofs.Common.{◌≡◌, ◌∙◌, min, ap, arith}
use Rattle.pairs.proofs.IndexLaws.{indexed-more}
use Rattle.pairs.specs.Pairs.{pair_count}
use Rattle.pairs.specs.code.Index.{indexed_to, named_count}
use Rattle.pairs.proofs.index.index_pairs.Goals as goal

pub note-requires : goal.note-requires
unfolding pair_count
note-requires c = (omega arith, omega arith, omega arith)

pub loop-k-preserved : goal.loop-k-preserved
loop-k-preserved c = indexed-more _ _ c.loop-k.k c.loop-k.invariant c.note.ensures

pub returns : goal.returns
unfolding pair_count
returns c =
    let all : c.loop-k.k ≡ min (named_count c.args.pairs.now) 128 = omega arith in
    c.loop-k.invariant ∙ ap (indexed_to _ _) all
