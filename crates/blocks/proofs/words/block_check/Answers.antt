-- `block_check` meets its contract: the bytes are all there, or some are.
use Rattle.std.proofs.Common.{◌≡◌, ap, ◌*◌, ◌∙◌, drop, take}
use Rattle.blocks.proofs.words.WordLaws.{check-there, range-front}
use Rattle.blocks.specs.Words.{check_of}
use Rattle.blocks.proofs.words.block_check.Goals as goal

pub returns-in-Some : goal.returns-in-Some
unfolding check_of
returns-in-Some c =
    let i : c.in-Some.whole.now ≡ take 510 (drop (512 * c.args.i) c.args.s.now) =
    c.in-Some.ensures.lookup.0.2 ∙ range-front c.args.s.now (512 * c.from-at.result) 510 ∙ ap (λ k. take 510 (drop (512 * k) c.args.s.now)) c.from-at.ensures in
    c.sum_bytes.ensures ∙ ap (λ bytes. check_of bytes 0) i ∙ check-there c.args.s.now (512 * c.args.i) 255

pub returns-in-None : goal.returns-in-None
unfolding check_of
returns-in-None c =
    let i = c.part.ensures.bytes ∙ ap (λ k. take 510 (drop (512 * k) c.args.s.now)) c.from-at.ensures in
    c.sum_bytes-in-None.ensures ∙ ap (λ bytes. check_of bytes 0) i ∙ check-there c.args.s.now (512 * c.args.i) 255
