use Rattle.std.proofs.Common.{◌≡◌, refl, ap, ◌%◌, arith}
use Rattle.blocks.proofs.words.WordLaws.{sum_more, sum_to}
use Rattle.blocks.specs.Words.{word_at}
use Rattle.blocks.specs.code.WordPairs.{pair}
use Rattle.blocks.proofs.words.sum_words.Goals as goal

pub loop-bytes-preserved : goal.loop-bytes-preserved
unfolding pair word_at
loop-bytes-preserved c =
    let e : c.from_le_bytes-acc.result ≡ pair c.args.words.now c.loop-bytes.bytes-index = omega (arith, c.from_le_bytes-acc.ensures) in
    sum_more _ c.loop-bytes.bytes-index c.loop-bytes.invariant (record { same = ap (λ x. x % 65536) e }) refl

pub returns : goal.returns
returns c = sum_to _ (omega arith) c.loop-bytes.invariant
