-- `mark_lacking` meets its contract: nothing, or what is marked, with one of two answers.
use Prim.Native.Nat.{◌≤◌, ℕ}
use lib.ListN.{length}
use mathlib.Core.Bool.{false, true}
use mathlib.Core.Path.{◌∙◌, ◌≡◌, ap, refl, sym}
use native.Mathlib.Omega.{arith}
use Rattle.blocks.specs.Entries.{entries_of}
use Rattle.blocks.specs.Reading.{reading_of}
use Rattle.blocks.specs.declared.Schema.TheVariants.{Description}
use Rattle.earning.proofs.TrialLaws.{accepted}
use Rattle.earning.specs.Answer.{contained, marked_bytes}
use Rattle.earning.specs.Leaving.{left_of, leaving_of}
use Rattle.missing.proofs.AnswerLaws.{cleared, lack-addable, lack-against, lack-nothing, left-lacks, none-lacks, ok-lack}
use Rattle.missing.specs.Answer.{against, lacks}
use Rattle.pairs.specs.Pairs.{pairs_reading}
use Rattle.std.specs.Prelude.{Ok}
use Rattle.missing.proofs.answer.mark_lacking.Goals.{After-mark_left}
use Rattle.missing.proofs.answer.mark_lacking.Goals as goal

pub invariant_of-service : goal.invariant_of-service
invariant_of-service c = record { listed = c.requires.0; read = c.requires.2; counted = c.args.d.counted }

pub is_contained-requires : goal.is_contained-requires
is_contained-requires c = c.requires.1

pub is_against-requires : goal.is_against-requires
is_against-requires c = (c.requires.0, c.requires.3)

-- what leaving out answers and leaves
left : (c : After-mark_left) → (leaving_of c.args.pairs.now c.args.c.bytes.now c.args.d.bytes.now c.args.d.bytes.now c.args.out.now ≡ Ok true)
    × (left_of c.args.pairs.now c.args.c.bytes.now c.args.d.bytes.now c.args.d.bytes.now c.args.out.now
    ≡ marked_bytes (lacks c.args.pairs.now c.args.c.bytes.now c.args.d.bytes.now) (length (entries_of c.args.d.bytes.now)) c.args.out.now)
left c =
    let a = c.args in
    let room : length (entries_of a.d.bytes.now) ≤ length a.out.now = omega (arith, a.d.counted, c.requires.4) in
    accepted (pairs_reading a.pairs.now) c.requires.0 (λ j l. accepted (reading_of Description 1 a.c.bytes.now) c.requires.1 (λ n r. accepted (reading_of Description 2 a.d.bytes.now) c.requires.2 (λ m q.
    left-lacks a.pairs.now a.c.bytes.now a.d.bytes.now l r q a.out.now room)))

pub returns-then-is_contained : goal.returns-then-is_contained
returns-then-is_contained c =
    let a = c.args in
    let y : contained a.pairs.now a.c.bytes.now a.d.bytes.now ≡ true = sym c.is_contained.ensures ∙ c.if-is_contained.true in (
      ok-lack (lack-nothing a.pairs.now a.c.bytes.now a.d.bytes.now y),
      accepted (pairs_reading a.pairs.now) c.requires.0 (λ j l. accepted (reading_of Description 1 a.c.bytes.now) c.requires.1 (λ n r. accepted (reading_of Description 2 a.d.bytes.now) c.requires.2 (λ m q.
          none-lacks a.pairs.now a.c.bytes.now a.d.bytes.now l r q y a.out.now
          (cleared a.d.total (length (entries_of a.d.bytes.now)) a.out.now a.d.counted c.requires.4 (c.fill.ensures.after (λ y e. e)))))),
    )

pub returns-in_err-mark_left : goal.returns-in_err-mark_left
returns-in_err-mark_left c =
    let w = (goal.at.returns-in_err-mark_left c).After-mark_left in
    let z = sym c.in_err-mark_left.was ∙ c.mark_left.ensures.0 ∙ (left w).0 in
    let y : ◌≡◌ {A = ℕ} 0 1 = cc in
    absurd (omega arith)

pub returns-then-is_against : goal.returns-then-is_against
returns-then-is_against c =
    let w = (goal.at.returns-then-is_against c).After-mark_left in
    let a = c.args in
    let n : contained a.pairs.now a.c.bytes.now a.d.bytes.now ≡ false = sym c.is_contained.ensures ∙ c.if-is_contained.false in
    let y : against a.pairs.now a.c.bytes.now a.d.bytes.now ≡ true = sym c.is_against.ensures ∙ c.if-is_against.true in
    (ok-lack (lack-against a.pairs.now a.c.bytes.now a.d.bytes.now n y), c.mark_left.ensures.1 ∙ (left w).1)

pub returns : goal.returns
returns c =
    let w = (goal.at.returns c).After-mark_left in
    let a = c.args in
    let n : contained a.pairs.now a.c.bytes.now a.d.bytes.now ≡ false = sym c.is_contained.ensures ∙ c.if-is_contained.false in
    let y : against a.pairs.now a.c.bytes.now a.d.bytes.now ≡ false = sym c.is_against.ensures ∙ c.if-is_against.false in
    (ok-lack (lack-addable a.pairs.now a.c.bytes.now a.d.bytes.now n y), c.mark_left.ensures.1 ∙ (left w).1)
