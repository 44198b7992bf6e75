-- `mark` meets its contract: nothing is left where it is not contained, or leaving out ends with what is.
use Prim.Native.Nat.{◌≤◌, ℕ}
use lib.ListN.{get_or-replicate, replicate}
use mathlib.Core.Bool.{false, true}
use mathlib.Core.List.{List, map}
use mathlib.Core.Path.{◌∙◌, ◌≡◌, ap, refl, sym}
use native.Mathlib.Omega.{arith}
use Rattle.blocks.specs.Entries.{entries_of}
use Rattle.blocks.specs.Reading.{reading_of}
use Rattle.blocks.specs.declared.Entry.{Entry}
use Rattle.blocks.specs.declared.Schema.TheVariants.{Description}
use Rattle.earning.proofs.AttemptLaws.{all-open, all-put, all-together, grows-beside, left-kept, sayers-left}
use Rattle.earning.proofs.MarkLaws.{bytes-are}
use Rattle.earning.proofs.TrialLaws.{accepted}
use Rattle.earning.proofs.TriedLaws.{listed-again}
use Rattle.earning.specs.Answer.{marked_bytes}
use Rattle.earning.specs.Leaving.{stays_in, together}
use Rattle.earning.specs.code.Tried.{Grows, Listed, enough, set_of}
use Rattle.narrow.specs.Earned.{sayers}
use Rattle.narrow.specs.Missing.{shifted}
use Rattle.narrow_listed.proofs.AcceptedLegal.{legal-read}
use Rattle.pairs.proofs.Under.{ruled-under}
use Rattle.pairs.specs.Pairs.{pairs_reading, under}
use Rattle.earning.proofs.attempt.mark.Goals.{After-passes}
use Rattle.earning.proofs.attempt.mark.Goals as goal

-- the entries that all stay, those that are tried, as they stand behind them, and those of the service
abbrev F : After-passes → List Entry
F c = entries_of c.args.attempt.stays.bytes.now

abbrev T : After-passes → List Entry
T c = entries_of c.args.attempt.tried.bytes.now

abbrev B : After-passes → List Entry
B c = map (shifted c.args.attempt.stays.total) (T c)

abbrev D : After-passes → List Entry
D c = entries_of c.args.attempt.service.d.now

-- the list that is tried
whole : (c : After-passes) → Listed (F c) (B c) c.load.new.entries c.args.attempt.stays.total c.args.attempt.tried.total
whole c = c.load.ensures

few : (c : After-passes) → c.args.attempt.tried.total ≤ 1008
few c = omega (arith, c.args.attempt.few)

-- all that may be left out stand at first
start : (c : After-passes) → set_of c.put_back.new.kept ≡ sayers (B c)
start c = all-put (B c) c.args.attempt.tried.total c.put_back.new.kept (whole c).count (c.put_back.ensures (F c) (B c) (whole c))

asked : (c : After-passes)
    → c.passes.result ≡ together c.args.attempt.service.pairs.now c.args.attempt.stays.bytes.now c.args.attempt.tried.bytes.now c.args.attempt.service.d.now
asked c =
    (rw (c.ask-service.ensures.0, c.ask-service.ensures.1) at c.passes.ensures) (F c) (B c) (whole c)
    ∙ all-together (under c.args.attempt.service.pairs.now) (F c) (T c) (D c) c.args.attempt.stays.counted (set_of c.put_back.new.kept) (rw (start c) (sayers-left (B c)))

grows : (c : After-passes) → Grows (enough (under c.args.attempt.service.pairs.now) (F c) (B c) (D c))
grows c =
    let a = c.args.attempt in
    accepted (pairs_reading a.service.pairs.now) a.service.listed (λ k l. accepted (reading_of Description 2 a.service.d.now) a.service.read (λ m r.
    grows-beside (ruled-under a.service.pairs.now l).lawful (F c) (T c) (D c) a.stays.legal a.tried.legal (legal-read 2 a.service.d.now r) a.stays.counted))

pub invariant_of-tried-clause-listed : goal.invariant_of-tried-clause-listed
invariant_of-tried-clause-listed c = listed-again (omega (arith, c.args.attempt.few, c.load.auto)) c.load.ensures

pub returns-then-not-passes : goal.returns-then-not-passes
returns-then-not-passes c =
    let w = (goal.at.returns-then-not-passes c).After-passes in
    let a = c.args.attempt in
    let P = a.service.pairs.now in
    let f = a.stays.bytes.now in
    let t = a.tried.bytes.now in
    let d = a.service.d.now in
    let no : together P f t d ≡ false = sym (asked w) ∙ c.if-not-passes.true in (
      sym no,
      c.put_marks.ensures
          ∙ bytes-are (stays_in P f t d) (replicate 1009 false) a.tried.total c.args.out.now c.requires
          (λ k lo hi. get_or-replicate 1009 k false true (omega (arith, few w)) ∙ rw no refl)
          ∙ ap (λ (n : ℕ). marked_bytes (stays_in P f t d) n c.args.out.now) a.tried.counted,
    )

pub mark_owners-requires : goal.mark_owners-requires
mark_owners-requires c =
    let w = (goal.at.mark_owners-requires c).After-passes in
    (c.args.attempt.tried.counted, few w, c.args.attempt.tried.legal)

pub returns : goal.returns
returns c =
    let w = (goal.at.returns c).After-passes in
    let a = c.args.attempt in
    let P = a.service.pairs.now in
    let f = a.stays.bytes.now in
    let t = a.tried.bytes.now in
    let d = a.service.d.now in
    let yes : together P f t d ≡ true = sym (asked w) ∙ c.if-not-passes.false in
    let s = start w in
    let l = (rw (c.ask-service.ensures.0, c.ask-service.ensures.1) at c.fold.ensures) (F w) (B w) (whole w) (grows w) (all-open (B w) a.tried.total s) in (
      sym yes,
      c.put_marks-2.ensures
          ∙ bytes-are (stays_in P f t d) c.mark_owners.new.kept a.tried.total c.args.out.now c.requires
          (λ k lo hi. c.mark_owners.ensures k lo hi ∙ left-kept (under P) (F w) (T w) (D w) a.stays.counted a.tried.counted s l k ∙ rw yes refl)
          ∙ ap (λ (n : ℕ). marked_bytes (stays_in P f t d) n c.args.out.now) a.tried.counted,
    )
