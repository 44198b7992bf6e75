-- What unfolding writes, as bytes: refused exactly by the first row that applies, and else the plain description from the start of the output.
-- Assumes nothing.
use Rattle.std.proofs.Common.{◌≡◌, ℕ, ◌*◌, ◌≤◌, ◌<◌, List, length, drop, Ok, sym, ap, ◌∙◌, arith}
use lib.Seq.{drop_at, take_at}
use Rattle.answers.proofs.Accepted.{plain-length}
use Rattle.answers.proofs.AnswerLaws.{refused-answered, same-refused}
use Rattle.answers.proofs.DictionaryOrder.{dictionary-cases}
use Rattle.answers.proofs.Order.{by_lines, early, late, line-cases}
use Rattle.answers.proofs.PromiseKept.{stands-for}
use Rattle.answers.specs.Calls.{NothingWritten, RefusedExactly, Unfolds}
use Rattle.answers.specs.Promise.{Admitted}
use Rattle.answers.specs.Refusals.{AcceptedBy, UnfoldRefused}
use Rattle.answers.specs.Refusals.UnfoldRefused.{dictionary as unfolds-dictionary, input as unfolds-input, short as unfolds-short}
use Rattle.base.proofs.Tests.{ge-ltb, lt-cases, lt-ltb}
use Rattle.blocks.specs.Encoding.{blocks_for, first_blocks}
use Rattle.blocks.specs.Frame.{plain}
use Rattle.blocks.specs.Refusals.{refused}
use Rattle.blocks.specs.declared.Cause.{Cause}
use Rattle.blocks.specs.declared.Cause.TheVariants.{Room}
use Rattle.names.specs.NamedReading.{plain_of}
use Rattle.unfolding.proofs.BufferLaws.{unfolded-few}
use Rattle.unfolding.specs.Answer.{over, unfold_at, unfolded_at}

module _ (D s out : List ℕ) where
  -- a refusal, and the output unchanged
  pub unfold-refuses : {k : Cause} {i p : ℕ} → UnfoldRefused D s out k i p
      → (unfold_at D 1 s out ≡ refused k i p) × (unfolded_at D 1 s out ≡ out)
  unfolding unfold_at unfolded_at
  unfold-refuses (unfolds-dictionary r) = let u = early D 1 s r in (rw u, rw u)
  unfold-refuses (unfolds-input T f) = let u = late D 1 s T f in (rw u, rw u)
  unfold-refuses (unfolds-short B h) =
      let A = by_lines D s B in
      let u = A.read 1 in
      let l : length out < 512 * blocks_for plain A.entries = omega (arith, plain-length D s A) in
      (rw (u, lt-ltb l), rw (u, lt-ltb l))

  -- otherwise the plain description is written
  pub unfold-answers : (A : Admitted D s) → length (plain_of D s) ≤ length out
      → (unfold_at D 1 s out ≡ Ok A.entries) × (unfolded_at D 1 s out ≡ over (plain_of D s) out)
  unfolding unfold_at unfolded_at
  unfold-answers A h =
      let u = A.read 1 in
      let l : 512 * blocks_for plain A.entries ≤ length out = omega (arith, plain-length D s A) in
      (rw (u, ge-ltb l), rw (u, ge-ltb l))

  pub unfold-cases : {X : Type 0} → ((k : Cause) (i p : ℕ) → UnfoldRefused D s out k i p → X)
      → (Admitted D s → length (plain_of D s) ≤ length out → X) → X
  unfold-cases f g =
      dictionary-cases D
      (λ k i p r. f k i p (unfolds-dictionary r))
      (λ T. line-cases D 1 s
      (λ k p r. f k 1 p (unfolds-input T r))
      (λ z.
      let B : AcceptedBy D s = record { dictionary = T; description = z } in
      lt-cases (length out) (length (plain_of D s)) (λ h. f Room 0 0 (unfolds-short B h)) (λ h. g (by_lines D s B) h)))

  -- the dictionary; input 1 in full; then 7: exactly by the first that applies
  pub unfold-refused-exactly : RefusedExactly (unfold_at D 1 s out) (UnfoldRefused D s out)
  unfold-refused-exactly k i p = (
    λ e. unfold-cases
        (λ k' i' p' r. same-refused (UnfoldRefused D s out) (unfold-refuses r).0 e r)
        (λ A h. refused-answered e (unfold-answers A h).0),
    λ r. (unfold-refuses r).0,
  )

  pub unfold-unchanged : NothingWritten (unfold_at D 1 s out) (unfolded_at D 1 s out) out
  unfold-unchanged k i p e = (unfold-refuses ((unfold-refused-exactly k i p).0 e)).1

  -- what is written, where n entries are
  written : (A : Admitted D s) → length (plain_of D s) ≤ length out → Unfolds D s out A.entries
  written A h =
      let n = 512 * blocks_for plain A.entries in
      let long = plain-length D s A in
      let bytes = (unfold-answers A h).1 in
      let later = drop (length (plain_of D s)) out in
      let first : first_blocks A.entries (unfolded_at D 1 s out) ≡ plain_of D s = rw bytes (take_at (plain_of D s) later n long) in
      let S = stands-for D s A in
      record {
        room = omega (arith, long);
        later = rw bytes (drop_at (plain_of D s) later n long) ∙ ap (λ (m : ℕ). drop m out) long;
        blocks = first;
        few = unfolded-few D 1 s (A.read 1);
        accepted = rw first S.accepted;
        nameless = rw first S.nameless;
        same = rw first S.same;
      }

  pub unfolds : (n : ℕ) → unfold_at D 1 s out ≡ Ok n → Unfolds D s out n
  unfolds n e =
      unfold-cases
      (λ k i p r. refused-answered (unfold-refuses r).0 e)
      (λ A h. let a = (unfold-answers A h).0 in let z : A.entries ≡ n = cc in rw (sym z) (written A h))
