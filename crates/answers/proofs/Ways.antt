-- The ways of each call: refused, or everything is accepted and the output is long enough.
-- Assumes nothing.
use Rattle.std.proofs.Common.{◌≡◌, ℕ, ◌≤◌, Bool, List, length, Ok, Option}
use Rattle.answers.proofs.AnswerLaws.{refused-answered}
use Rattle.answers.proofs.Order.{by_lines, comparison-cases, comparison-refuses, fit-cases, fit-refuses, normal-cases, normal-refuses, specimen-accepted}
use Rattle.answers.specs.Promise.{Admitted, ComparableNamed, JudgeableNamed}
use Rattle.blocks.specs.Promise.{NoneApplies}
use Rattle.blocks.specs.Refusals.{refused}
use Rattle.blocks.specs.declared.Cause.{Cause}
use Rattle.compare.specs.declared.NotContained.{NotContained}
use Rattle.named.specs.Answer.{compare_named, fit_named, normalise_named}
use Rattle.names.specs.NamedReading.{plain_of}
use Rattle.pairs.proofs.PairsAccepted.{none-accepted}
use Rattle.pairs.specs.Pairs.{pair_faults}
use Rattle.pairs.specs.Promise.{ListRead}

list-taken : (P : List ℕ) → NoneApplies (pair_faults P) → ListRead P
list-taken P n = record { count = _; list_read = none-accepted P n }

pub normal-ways : (P D d out : List ℕ) {X : Type 0} → ((k : Cause) (i p : ℕ) → normalise_named P D d out ≡ refused k i p → X)
    → (ListRead P → Admitted D d → length (plain_of D d) ≤ length out → X) → X
normal-ways P D d out f g =
    normal-cases P D d out (λ k i p r. f k i p (normal-refuses P D d out r).0) (λ n B h. g (list-taken P n) (by_lines D d B) h)

-- what was normalised was accepted, under a list that was
pub normalised-ready : (P D d out : List ℕ) {k : ℕ} {X : Type 0} → normalise_named P D d out ≡ Ok k → (ListRead P → Admitted D d → X) → X
normalised-ready P D d out e g =
    normal-ways P D d out (λ k i p q. refused-answered q e) (λ L A h. g L A)

pub comparison-ways : (P D c d out : List ℕ) {X : Type 0} → ((k : Cause) (i p : ℕ) → compare_named P D c d out ≡ refused k i p → X)
    → (ListRead P → ComparableNamed D c d out → X) → X
comparison-ways P D c d out f g =
    comparison-cases P D c d out
    (λ k i p r. f k i p (comparison-refuses P D c d out r).0)
    (λ n B B' h. g (list-taken P n) (record { first = by_lines D c B; second = by_lines D d B'; room = h }))

-- what was compared was accepted, and the output is long enough
pub compared-ready : (P D c d out : List ℕ) {r : Option NotContained} {X : Type 0} → compare_named P D c d out ≡ Ok r
    → (ListRead P → ComparableNamed D c d out → X) → X
compared-ready P D c d out e g = comparison-ways P D c d out (λ k i p q. refused-answered q e) g

pub fit-ways : (P D s d : List ℕ) {X : Type 0} → ((k : Cause) (i p : ℕ) → fit_named P D s d ≡ refused k i p → X) → (JudgeableNamed P D s d → X) → X
fit-ways P D s d f g =
    fit-cases P D s d
    (λ k i p r. f k i p (fit-refuses P D s d r))
    (λ n B z. g (record { total = _; specimen = specimen-accepted P D s d n z; description = by_lines D d B }))

-- what was judged was accepted
pub judged-ready : (P D s d : List ℕ) {b : Bool} {X : Type 0} → fit_named P D s d ≡ Ok b → (JudgeableNamed P D s d → X) → X
judged-ready P D s d e g = fit-ways P D s d (λ k i p q. refused-answered q e) g
