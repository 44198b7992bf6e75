-- `block_second` meets its contract: the bytes are all there, or some are.
use Rattle.std.proofs.Common.{◌≡◌, ap, ◌*◌, ◌∙◌, drop, take}
use Rattle.blocks.proofs.words.WordLaws.{second-there, range-front}
use Rattle.blocks.specs.Words.{second_of}
use Rattle.blocks.proofs.words.block_second.Goals as goal

pub returns-in-Some : goal.returns-in-Some
unfolding second_of
returns-in-Some c =
    let i : c.in-Some.whole.now ≡ take 508 (drop (512 * c.args.i) c.args.s.now) =
    c.in-Some.ensures.lookup.0.2 ∙ range-front c.args.s.now (512 * c.from-at.result) 508 ∙ ap (λ k. take 508 (drop (512 * k) c.args.s.now)) c.from-at.ensures in
    c.weigh_bytes.ensures ∙ ap (λ bytes. second_of bytes 0) i ∙ second-there c.args.s.now (512 * c.args.i) 254

pub returns-in-None : goal.returns-in-None
unfolding second_of
returns-in-None c =
    let i = c.part.ensures.bytes ∙ ap (λ k. take 508 (drop (512 * k) c.args.s.now)) c.from-at.ensures in
    c.weigh_bytes-in-None.ensures ∙ ap (λ bytes. second_of bytes 0) i ∙ second-there c.args.s.now (512 * c.args.i) 254
