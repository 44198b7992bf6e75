-- `judge_supplied` meets its contract: the supplier's description is refused, or the list is judged by what it stands for.
use Prim.Native.Nat.{◌*◌, ◌≤◌, ℕ}
use lib.ListN.{length, take}
use lib.Seq.{length-take-le}
use mathlib.Core.Path.{◌∙◌, ◌≡◌, ap, refl, sym}
use native.Mathlib.Omega.{arith}
use Rattle.blocks.specs.Encoding.{blocks_for}
use Rattle.blocks.specs.Frame.{plain}
use Rattle.blocks.specs.Reading.{reading_of}
use Rattle.blocks.specs.declared.Schema.TheVariants.{Description}
use Rattle.names.proofs.Legality.AcceptedReadings.{sent-accepted}
use Rattle.names.specs.NamedReading.{sent_of, unfolding_of}
use Rattle.slots.proofs.catalogue.CatalogueLaws.{read-buffered, read-nameless, supplier-read, supplier-refused}
use Rattle.std.specs.Prelude.{Ok, []}
use Rattle.std.proofs.lemmas.Result.{err_from_is_err_and}
use Rattle.unfolding.proofs.BufferLaws.{buffer-ends, sent-itself}
use Rattle.slots.proofs.catalogue.judge_supplied.Goals.{After-bytes_for-end, After-unfold_into}
use Rattle.slots.proofs.catalogue.judge_supplied.Goals as goal

-- how the supplier is read, and what stands in the buffer then
stands : (c : After-unfold_into) → (c.unfold_into.result ≡ unfolding_of c.in-Some.dictionary.bytes.now 1 c.args.c.now)
    × ((n k : ℕ) → c.unfold_into.result ≡ Ok n → k ≡ 512 * blocks_for plain n → take k c.unfold_into.new.out ≡ sent_of c.in-Some.dictionary.bytes.now c.args.c.now)
stands c =
    let u = c.unfold_into.ensures in
    read-buffered c.in-Some.dictionary.bytes.now 1 c.args.c.now (rw c.in-Some.is at c.args.names.some) _ (omega arith) u.0 u.1

pub invariant_of-sent : goal.invariant_of-sent
invariant_of-sent c =
    let e = sym (read-nameless 1 c.args.c.now c.read.ensures) ∙ c.in_ok-n.was in
    let same = sym (sent-itself [] c.args.c.now refl) in
    record { read = ap (reading_of Description 1) same ∙ (sent-accepted [] 1 c.args.c.now e 1).0 ∙ ap Ok (sym c.from.ensures) }

pub returns-in_default : goal.returns-in_default
returns-in_default c =
    let j = rw c.in_default.is at c.judge_cut.ensures in
    rw c.in_default.is
    (supplier-read c.args.exclusions.pairs.now [] c.args.c.now c.args.list.now c.args.answers.now (read-nameless 1 c.args.c.now c.read.ensures) c.in_ok-n.was
    (sym (sent-itself [] c.args.c.now refl)) j)

pub returns-in_err-n : goal.returns-in_err-n
returns-in_err-n c =
    let p = err_from_is_err_and c.from_residual.result c.from_residual.ensures.1 in
    rw (c.in_default.is, p.1, p.2) (supplier-refused c.args.exclusions.pairs.now [] c.args.c.now c.args.list.now c.args.answers.now (read-nameless 1 c.args.c.now c.read.ensures) c.in_err-n.was)

pub returns-in_err-n-2 : goal.returns-in_err-n-2
returns-in_err-n-2 c =
    let p = err_from_is_err_and c.from_residual-in_err-n-2.result c.from_residual-in_err-n-2.ensures.1 in
    let r = stands (goal.at.returns-in_err-n-2 c).After-unfold_into in
    rw (c.in-Some.is, p.1, p.2) (supplier-refused c.args.exclusions.pairs.now c.in-Some.dictionary.bytes.now c.args.c.now c.args.list.now c.args.answers.now r.0 c.in_err-n-2.was)

-- the blocks of what is read end within the buffer
ends : (c : After-bytes_for-end) → c.bytes_for-end.result ≤ length c.unfold_into.new.out
ends c =
    let u = c.unfold_into.ensures in
    let some = rw c.in-Some.is at c.args.names.some in
    let D = c.in-Some.dictionary.bytes.now in
    let e = sym (read-buffered D 1 c.args.c.now some _ (omega arith) u.0 u.1).0 ∙ c.in_ok-n-2.was in
    omega (arith, c.bytes_for-end.ensures.0, buffer-ends D 1 c.args.c.now e _ (omega arith) u.1)

pub slice_bounds-buffer-end : goal.slice_bounds-buffer-end
slice_bounds-buffer-end c = ends (goal.at.slice_bounds-buffer-end c).After-bytes_for-end

pub slice_bounds-unfolded-end : goal.slice_bounds-unfolded-end
slice_bounds-unfolded-end c = sym (length-take-le c.bytes_for-end.result c.unfold_into.new.out (ends (goal.at.slice_bounds-unfolded-end c).After-bytes_for-end))

pub invariant_of-unfolded : goal.invariant_of-unfolded
invariant_of-unfolded c =
    let D = c.in-Some.dictionary.bytes.now in
    let r = stands (goal.at.invariant_of-unfolded c).After-unfold_into in
    let same = r.1 _ _ c.in_ok-n-2.was c.bytes_for-end.ensures.0 in
    record { read = ap (reading_of Description 1) same ∙ (sent-accepted D 1 c.args.c.now (sym r.0 ∙ c.in_ok-n-2.was) 1).0 ∙ ap Ok (sym c.from-2.ensures) }

pub returns : goal.returns
returns c =
    let D = c.in-Some.dictionary.bytes.now in
    let r = stands (goal.at.returns c).After-unfold_into in
    let same = r.1 _ _ c.in_ok-n-2.was c.bytes_for-end.ensures.0 in
    let j = rw c.in-Some.is at c.judge_cut-2.ensures in
    rw c.in-Some.is (supplier-read c.args.exclusions.pairs.now D c.args.c.now c.args.list.now c.args.answers.now r.0 c.in_ok-n-2.was same j)
