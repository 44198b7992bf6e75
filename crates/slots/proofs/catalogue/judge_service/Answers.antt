-- `judge_service` meets its contract: as it is sent, or the service is refused, or judged.
use Prim.Native.Nat.{◌*◌, ℕ}
use lib.ListN.{take}
use mathlib.Core.Path.{◌∙◌, ◌≡◌, ap, sym}
use native.Mathlib.Omega.{arith}
use Rattle.blocks.specs.Encoding.{blocks_for}
use Rattle.blocks.specs.Frame.{plain}
use Rattle.blocks.specs.Reading.{reading_of}
use Rattle.blocks.specs.declared.Schema.TheVariants.{Description}
use Rattle.names.proofs.Legality.AcceptedReadings.{sent-accepted}
use Rattle.names.specs.NamedReading.{sent_of, unfolding_of}
use Rattle.pairs.specs.Pairs.{under}
use Rattle.slots.proofs.FailingLaws.{accepted-few}
use Rattle.slots.proofs.catalogue.CatalogueLaws.{read-buffered, service-judged, service-plain, service-refused}
use Rattle.slots.proofs.failing.JudgingLaws.{none-fails}
use Rattle.slots.specs.Holding.{failing_in}
use Rattle.std.specs.Prelude.{Ok}
use Rattle.std.proofs.lemmas.Result.{err_from_is_err_and}
use Rattle.unfolding.proofs.BufferLaws.{blocks-room, unfolded-few}
use Rattle.slots.proofs.catalogue.judge_service.Goals.{After-unfold_into}
use Rattle.slots.proofs.catalogue.judge_service.Goals as goal

-- how the service is read, and what stands in the buffer then
stands : (c : After-unfold_into) → (c.unfold_into.result ≡ unfolding_of c.in-Some.dictionary.bytes.now c.args.input c.args.d.now)
    × ((n k : ℕ) → c.unfold_into.result ≡ Ok n → k ≡ 512 * blocks_for plain n → take k c.unfold_into.new.out ≡ sent_of c.in-Some.dictionary.bytes.now c.args.d.now)
stands c =
    let u = c.unfold_into.ensures in
    read-buffered c.in-Some.dictionary.bytes.now c.args.input c.args.d.now (rw c.in-Some.is at c.args.names.some) c.args.scratch.now.buffer (omega arith) u.0 u.1

pub returns-in_default : goal.returns-in_default
returns-in_default c = rw c.in_default.is (λ s H. c.judge_plain.ensures s H ∙ service-plain c.args.supplier.marked.exclusions.pairs.now s c.args.input c.args.d.now)

pub returns-in_err-m : goal.returns-in_err-m
returns-in_err-m c =
    let p = err_from_is_err_and c.from_residual.result c.from_residual.ensures.1 in
    let D = c.in-Some.dictionary in
    let r = stands (goal.at.returns-in_err-m c).After-unfold_into in
    rw (c.in-Some.is, p.1, p.2) (λ s H. service-refused c.args.supplier.marked.exclusions.pairs.now D.bytes.now D.accepted s c.args.input c.args.d.now r.0 c.in_err-m.was)

pub shared_ref_as_front-service : goal.shared_ref_as_front-service
shared_ref_as_front-service c =
    let r = stands (goal.at.shared_ref_as_front-service c).After-unfold_into in
    let e = sym r.0 ∙ c.in_ok-m.was in
    omega (arith, c.bytes_for-end.ensures.0, blocks-room _ (unfolded-few c.in-Some.dictionary.bytes.now c.args.input c.args.d.now e))

pub invariant_of-service : goal.invariant_of-service
invariant_of-service c =
    let D = c.in-Some.dictionary.bytes.now in
    let r = stands (goal.at.invariant_of-service c).After-unfold_into in
    let same = r.1 _ _ c.in_ok-m.was c.bytes_for-end.ensures.0 in
    let p = (sent-accepted D c.args.input c.args.d.now (sym r.0 ∙ c.in_ok-m.was) 1).0 in
    record { read = ap (reading_of Description 1) same ∙ p ∙ ap Ok (sym c.from.ensures) }

pub judge-failing-requires : goal.judge-failing-requires
judge-failing-requires c =
    let D = c.in-Some.dictionary.bytes.now in
    let r = stands (goal.at.judge-failing-requires c).After-unfold_into in
    let p = (sent-accepted D c.args.input c.args.d.now (sym r.0 ∙ c.in_ok-m.was) 1).0 in
    (omega arith, omega (arith, c.from.ensures, (accepted-few 1 _ p).1))

pub returns : goal.returns
returns c =
    let D = c.in-Some.dictionary in
    let P = c.args.supplier.marked.exclusions.pairs.now in
    let r = stands (goal.at.returns c).After-unfold_into in
    let same = r.1 _ _ c.in_ok-m.was c.bytes_for-end.ensures.0 in
    rw c.in-Some.is
    (λ s H.
    service-judged P D.bytes.now D.accepted s c.args.input c.args.d.now r.0 c.in_ok-m.was
    (c.judge-failing.ensures.2 s H ∙ ap (failing_in (under P) s) same) (none-fails _ c.judge-failing.ensures.1 _ c.is_none.ensures))
