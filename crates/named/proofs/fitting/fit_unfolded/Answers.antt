-- `fit_unfolded` meets its contract: what stands in the buffer is the plain description.
use Prim.Native.Nat.{ℕ}
use mathlib.Core.List.{List}
use mathlib.Core.Path.{◌∙◌, ap, sym}
use native.Mathlib.Omega.{arith}
use Rattle.fit.specs.Answer.{fit_of}
use Rattle.named.proofs.UnfoldedLaws.{fit-early, fit-goes, fit-late, part-ends, part-plain}
use Rattle.std.proofs.lemmas.List.{length-take-le}
use Rattle.unfolding.proofs.BufferLaws.{at-buffer}
use Rattle.named.proofs.fitting.fit_unfolded.Goals as goal

pub returns-then-e-ge100 : goal.returns-then-e-ge100
returns-then-e-ge100 c =
    let P = c.args.pairs.now in
    let D = c.args.dictionary.now in
    let s = c.args.s.now in
    let d = c.args.d.now in
    let b = c.args.buffer.now in
    let e = sym (at-buffer D 2 d b c.requires.2) ∙ sym c.unfold_into-reading.ensures.0 ∙ c.in-Err.is in
    fit-early P D c.requires.0 c.requires.1 s d e c.if-e-ge100.true

pub slice_bounds-fit-end : goal.slice_bounds-fit-end
slice_bounds-fit-end c =
    let P = c.args.pairs.now in
    let D = c.args.dictionary.now in
    let s = c.args.s.now in
    let d = c.args.d.now in
    let b = c.args.buffer.now in
    let u = c.unfold_into-reading.ensures in
    let e = sym (at-buffer D 2 d b c.requires.2) ∙ sym u.0 ∙ c.in-Ok.is in
    part-ends D 2 d e b c.requires.2 u.1 c.bytes_for-end.ensures.0

pub returns-else-e-ge100 : goal.returns-else-e-ge100
returns-else-e-ge100 c =
    let P = c.args.pairs.now in
    let D = c.args.dictionary.now in
    let s = c.args.s.now in
    let d = c.args.d.now in
    let b = c.args.buffer.now in
    let e = sym (at-buffer D 2 d b c.requires.2) ∙ sym c.unfold_into-reading.ensures.0 ∙ c.in-Err.is in
    c.specimen_first.ensures ∙ fit-late P D c.requires.0 c.requires.1 s d e (omega (arith, c.if-e-ge100.false))

pub returns-in-Ok : goal.returns-in-Ok
returns-in-Ok c =
    let P = c.args.pairs.now in
    let D = c.args.dictionary.now in
    let s = c.args.s.now in
    let d = c.args.d.now in
    let b = c.args.buffer.now in
    let u = c.unfold_into-reading.ensures in
    let e = sym (at-buffer D 2 d b c.requires.2) ∙ sym u.0 ∙ c.in-Ok.is in
    let p = part-plain D 2 d e b c.requires.2 u.1 c.bytes_for-end.ensures.0 in
    c.fit.ensures ∙ ap (λ (x : List ℕ). fit_of P s x) p ∙ fit-goes P D c.requires.0 c.requires.1 s d e

pub slice_bounds-fit-end-in-Ok : goal.slice_bounds-fit-end-in-Ok
slice_bounds-fit-end-in-Ok c = sym (length-take-le _ _ (slice_bounds-fit-end c))
