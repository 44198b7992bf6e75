-- `mark_unfolded` meets its contract: what stands in the buffer is the plain description.
use Rattle.std.proofs.Common.{◌≡◌, ◌∙◌, ◌*◌, ap, List, ℕ, Ok, Err, take, refl, sym, arith}
use Rattle.std.proofs.lemmas.List.{length-take-le}
use Rattle.std.proofs.lemmas.Result.{err_from_is_err_and}
use Rattle.blocks.specs.Encoding.{blocks_for}
use Rattle.blocks.specs.Frame.{plain}
use Rattle.blocks.specs.Reading.{reading_of}
use Rattle.blocks.specs.declared.Schema.TheVariants.{Description}
use Rattle.clashes.proofs.Refusals.{refused-accepted}
use Rattle.names.proofs.Legality.AcceptedReadings.{sent-accepted}
use Rattle.names.specs.NamedReading.{sent_of, unfolding_of}
use Rattle.unfolding.proofs.BufferLaws.{at-buffer, buffer-ends, buffer-plain, sent-plain}
use Rattle.places.proofs.ReadLaws.{room-all}
use Rattle.items.proofs.sent.mark_unfolded.Goals as goal
use Rattle.items.proofs.sent.mark_unfolded.Goals.{After-bytes_for-end}

-- the description is accepted
read : (c : After-bytes_for-end) → unfolding_of c.args.dictionary.bytes.now 2 c.args.description.now ≡ Ok c.in_ok-n.n
read c =
    let u = c.unfold_into.ensures in
    sym (at-buffer c.args.dictionary.bytes.now 2 c.args.description.now c.args.buffer.now c.requires.1) ∙ sym u.0 ∙ c.in_ok-n.was

-- and the front of the buffer is what it stands for
sent : (c : After-bytes_for-end) → take c.bytes_for-end.result c.unfold_into.new.out ≡ sent_of c.args.dictionary.bytes.now c.args.description.now
sent c =
    let D = c.args.dictionary.bytes.now in
    let d = c.args.description.now in
    rw c.bytes_for-end.ensures.0 (buffer-plain D 2 d (read c) c.args.buffer.now c.requires.1 c.unfold_into.ensures.1 ∙ sym (sent-plain D d c.requires.0))

plainly : (c : After-bytes_for-end) → reading_of Description 2 (take c.bytes_for-end.result c.unfold_into.new.out) ≡ Ok c.in_ok-n.n
plainly c = rw (sent c) (sent-accepted c.args.dictionary.bytes.now 2 c.args.description.now (read c) 2).0

pub returns-in_err-n-clause-reading : goal.returns-in_err-n-clause-reading
returns-in_err-n-clause-reading c =
    let p = err_from_is_err_and c.from_residual.result c.from_residual.ensures.1 in
    let u = c.unfold_into.ensures in
    rw (p.1, p.2) (sym c.in_err-n.was ∙ u.0 ∙ at-buffer c.args.dictionary.bytes.now 2 c.args.description.now c.args.buffer.now c.requires.1)

pub slice_bounds-read-end : goal.slice_bounds-read-end
slice_bounds-read-end c =
    let d = (goal.at.slice_bounds-read-end c).After-bytes_for-end in
    let u = c.unfold_into.ensures in
    rw c.bytes_for-end.ensures.0 (buffer-ends c.args.dictionary.bytes.now 2 c.args.description.now (read d) c.args.buffer.now c.requires.1 u.1)

pub slice_bounds-read-end-2 : goal.slice_bounds-read-end-2
slice_bounds-read-end-2 c =
    let d = (goal.at.slice_bounds-read-end-2 c).After-bytes_for-end in
    let u = c.unfold_into.ensures in
    sym (length-take-le _ _ (rw c.bytes_for-end.ensures.0 (buffer-ends c.args.dictionary.bytes.now 2 c.args.description.now (read d) c.args.buffer.now c.requires.1 u.1)))

pub returns-in_err-places-clause-reading : goal.returns-in_err-places-clause-reading
returns-in_err-places-clause-reading c =
    let d = (goal.at.returns-in_err-places-clause-reading c).After-bytes_for-end in
    let r = c.in_err-places.field-0.0 in
    refused-accepted {k = r.cause} {i = r.input} {p = r.place} (sym (room-all _ 2) ∙ rw c.in_err-places.was at c.read.ensures.refused) (plainly d)

pub returns-clause-reading : goal.returns-clause-reading
returns-clause-reading c = sym (read (goal.at.returns-clause-reading c).After-bytes_for-end)

pub returns-clause-marked : goal.returns-clause-marked
returns-clause-marked c = λ x h.
    let d = (goal.at.returns-clause-marked c).After-bytes_for-end in
    let a = rw c.in_ok-places.was at c.read.ensures.accepted in
    rw (← sent d, ← a.1) (c.mark_fitting.ensures x h)
