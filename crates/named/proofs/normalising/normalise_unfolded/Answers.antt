-- `normalise_unfolded` meets its contract: what stands in the buffer is the plain description.
use Prim.Native.Nat.{ℕ}
use mathlib.Core.List.{List}
use mathlib.Core.Path.{◌∙◌, ap, sym}
use Rattle.named.proofs.UnfoldedLaws.{normal-goes, normal-refused, part-ends, part-plain}
use Rattle.unfolding.proofs.BufferLaws.{at-buffer}
use Rattle.normal.specs.Answer.{normalise_of, normalised_of}
use Rattle.std.proofs.lemmas.List.{length-take-le}
use Rattle.std.proofs.lemmas.Result.{err_from_is_err_and}
use Rattle.named.proofs.normalising.normalise_unfolded.Goals as goal

pub returns-in_err-n : goal.returns-in_err-n
returns-in_err-n c =
    let p = err_from_is_err_and c.from_residual.result c.from_residual.ensures.1 in
    let u = c.unfold_into.ensures.0 in
    let e = sym (at-buffer c.args.dictionary.now 1 c.args.d.now c.args.buffer.now c.requires.2) ∙ sym u ∙ c.in_err-n.was in
    rw (p.1, p.2)
    (normal-refused c.args.pairs.now c.args.dictionary.now c.requires.0 c.requires.1 c.args.d.now c.args.out.now e)

pub slice_bounds-normalise-end : goal.slice_bounds-normalise-end
slice_bounds-normalise-end c =
    let u = c.unfold_into.ensures in
    let e = sym (at-buffer c.args.dictionary.now 1 c.args.d.now c.args.buffer.now c.requires.2) ∙ sym u.0 ∙ c.in_ok-n.was in
    part-ends c.args.dictionary.now 1 c.args.d.now e c.args.buffer.now c.requires.2 u.1 c.bytes_for-end.ensures.0

pub slice_bounds-normalise-end-2 : goal.slice_bounds-normalise-end-2
slice_bounds-normalise-end-2 c = sym (length-take-le _ _ (slice_bounds-normalise-end c))

pub returns : goal.returns
returns c =
    let u = c.unfold_into.ensures in
    let e = sym (at-buffer c.args.dictionary.now 1 c.args.d.now c.args.buffer.now c.requires.2) ∙ sym u.0 ∙ c.in_ok-n.was in
    let p = part-plain c.args.dictionary.now 1 c.args.d.now e c.args.buffer.now c.requires.2 u.1 c.bytes_for-end.ensures.0 in
    let g = normal-goes c.args.pairs.now c.args.dictionary.now c.requires.0 c.requires.1 c.args.d.now c.args.out.now e in
    let n = c.normalise.ensures in
    let P = c.args.pairs.now in
    let o = c.args.out.now in
    (n.0 ∙ ap (λ (x : List ℕ). normalise_of P x o) p ∙ g.0, n.1 ∙ ap (λ (x : List ℕ). normalised_of P x o) p ∙ g.1)
