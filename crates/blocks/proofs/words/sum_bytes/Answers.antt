-- `sum_bytes` meets its contract.
use Rattle.std.proofs.Common.{refl, ◌∙◌}
use Rattle.blocks.proofs.words.WordLaws.{check-all}
use Rattle.blocks.specs.Words.{check_of}
use Rattle.blocks.proofs.words.sum_bytes.Goals as goal

pub returns : goal.returns
unfolding check_of
returns c =
    let a = c.as_chunks.ensures in
    check-all c.args.bytes.now 255 c.requires a.front a.front_len a.back c.sum_words.ensures (c.from.ensures ∙ c.byte.ensures) refl
