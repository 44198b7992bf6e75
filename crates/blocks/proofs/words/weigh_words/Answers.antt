use Rattle.std.proofs.Common.{◌≡◌, refl, add-one, arith}
use Rattle.blocks.proofs.words.WordLaws.{sum_more, sum_to}
use Rattle.blocks.specs.Words.{word_at}
use Rattle.blocks.specs.code.WordPairs.{pair, weighted_pair}
use Rattle.blocks.proofs.words.weigh_words.Goals as goal

pub loop-k-preserved : goal.loop-k-preserved
unfolding pair weighted_pair word_at
loop-k-preserved c =
    let e : c.from_le_bytes.result ≡ pair c.args.words.now c.loop-k.k = omega (arith, c.from_le_bytes.ensures) in
    sum_more _ c.loop-k.k c.loop-k.invariant (record { same = rw (e, add-one c.loop-k.k) (omega arith) }) refl

pub returns : goal.returns
returns c = sum_to _ (omega arith) c.loop-k.invariant
