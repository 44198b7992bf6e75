-- Asking for the narrowest description refuses exactly by the first row that applies, and answers where none does; a refusal leaves the output,
-- and number 7 comes last.
-- Assumes nothing.
use Rattle.std.proofs.Common.{◌≡◌, ℕ, ◌*◌, ◌≤◌, ◌⊎◌, ◌↔◌, List, length, Ok, inl, inr, refl, ⊎_elim, ◌∙◌, arith}
use Rattle.answers.proofs.Accepted.{plain-read}
use Rattle.answers.proofs.AnswerLaws.{refused-answered, same-refused}
use Rattle.answers.proofs.DictionaryOrder.{dictionary-cases}
use Rattle.answers.proofs.NarrowestUnfolded.{narrowest-plain, plain-given, plain-large, plain-many, plain-short, refused-stays}
use Rattle.answers.proofs.Order.{by_lines, early, late, line-cases, list_cases}
use Rattle.answers.proofs.Seven.{dictionary-number, line-number, list-number, not-seven}
use Rattle.answers.specs.Calls.{NothingWritten, RefusedExactly}
use Rattle.answers.specs.Narrowest.{NarrowestRefused, SevenDue, both_bytes, narrowest_with}
use Rattle.answers.specs.Narrowest.NarrowestRefused.{dictionary as by-dictionary, first as by-first, large as by-large, list as by-list, many as by-many, second as by-second, short as by-short}
use Rattle.answers.specs.Refusals.{AcceptedBy}
use Rattle.base.proofs.Tests.{lt-cases}
use Rattle.blocks.proofs.Refusing.Readings.{reading-cases}
use Rattle.blocks.specs.Encoding.{blocks_for}
use Rattle.blocks.specs.Frame.{plain}
use Rattle.blocks.specs.Promise.{NoneApplies}
use Rattle.blocks.specs.Reading.{returned}
use Rattle.blocks.specs.Refusals.{number_of, refused}
use Rattle.blocks.specs.declared.Cause.TheVariants.{Length, Room}
use Rattle.blocks.specs.declared.Cause.{Cause}
use Rattle.named.specs.Answer.{narrowed_named, narrowest_named}
use Rattle.names.specs.NamedReading.{plain_of}
use Rattle.pairs.proofs.PairsAccepted.{none-accepted}
use Rattle.pairs.proofs.PairsRefused.{pairs-refused}
use Rattle.pairs.specs.Pairs.{pair_faults}

-- nothing is refused
pub record Answered (P D a b out : List ℕ) : Type 0 where
  pub pairs : NoneApplies (pair_faults P)
  pub first : AcceptedBy D a
  pub second : AcceptedBy D b
  pub sixteen : both_bytes D a b ≤ 8192
  pub output : both_bytes D a b ≤ length out
  pub few : length (narrowest_with P D a b) ≤ 1008
  pub room : 512 * blocks_for plain (length (narrowest_with P D a b)) ≤ length out

module _ (P D a b out : List ℕ) where
  -- a refusal, and the output as it was [R21]
  pub narrowest-refuses : {k : Cause} {i p : ℕ} → NarrowestRefused P D a b out k i p
      → (narrowest_named P D a b out ≡ refused k i p) × (narrowed_named P D a b out ≡ out)
  unfolding narrowest_named narrowed_named
  narrowest-refuses (by-list f) = let e = pairs-refused P f in (rw e, rw e)
  narrowest-refuses (by-dictionary n r) = let e = none-accepted P n in let u = early D 1 a r in (rw (e, u), rw (e, u))
  narrowest-refuses (by-first n T f) = let e = none-accepted P n in let u = late D 1 a T f in (rw (e, u), rw (e, u))
  narrowest-refuses (by-second n x f) =
      let e = none-accepted P n in
      let u = (by_lines D a x).read 1 in
      let v = late D 2 b x.dictionary f in
      (rw (e, u, v), rw (e, u, v))
  narrowest-refuses (by-large n x y h) =
      let A = by_lines D a x in
      let B = by_lines D b y in
      let same = narrowest-plain P D a b out A B in
      let e = plain-large P (plain_of D a) (plain_of D b) out (none-accepted P n) (plain-read D a A 1) (plain-read D b B 2) h in
      (same.0 ∙ e, same.1 ∙ refused-stays P (plain_of D a) (plain_of D b) out e)
  narrowest-refuses (by-short n x y h s) =
      let A = by_lines D a x in
      let B = by_lines D b y in
      let same = narrowest-plain P D a b out A B in
      let e = plain-short P (plain_of D a) (plain_of D b) out (none-accepted P n) (plain-read D a A 1) (plain-read D b B 2) h s in
      (same.0 ∙ e, same.1 ∙ refused-stays P (plain_of D a) (plain_of D b) out e)
  narrowest-refuses (by-many n x y h s m) =
      let A = by_lines D a x in
      let B = by_lines D b y in
      let same = narrowest-plain P D a b out A B in
      let e = plain-many P (plain_of D a) (plain_of D b) out (none-accepted P n) (plain-read D a A 1) (plain-read D b B 2) h s m in
      (same.0 ∙ e, same.1 ∙ refused-stays P (plain_of D a) (plain_of D b) out e)

  -- otherwise it answers: so many entries
  pub narrowest-answers : Answered P D a b out → narrowest_named P D a b out ≡ Ok (length (narrowest_with P D a b))
  narrowest-answers R =
      let A = by_lines D a R.first in
      let B = by_lines D b R.second in
      (narrowest-plain P D a b out A B).0
      ∙ plain-given P (plain_of D a) (plain_of D b) out (none-accepted P R.pairs) (plain-read D a A 1) (plain-read D b B 2) R.sixteen R.output R.few R.room

  pub narrowest-cases : {X : Type 0} → ((k : Cause) (i p : ℕ) → NarrowestRefused P D a b out k i p → X) → (Answered P D a b out → X) → X
  narrowest-cases {X} f g =
      list_cases P
      (λ k p r. f k 0 p (by-list r))
      (λ n. dictionary-cases D
      (λ k i p r. f k i p (by-dictionary n r))
      (λ T. line-cases D 1 a
      (λ k p r. f k 1 p (by-first n T r))
      (λ z.
      let x : AcceptedBy D a = record { dictionary = T; description = z } in
      line-cases D 2 b
      (λ k p r. f k 2 p (by-second n x r))
      (λ w. taken n x (record { dictionary = T; description = w })))))
    where
      taken : NoneApplies (pair_faults P) → AcceptedBy D a → AcceptedBy D b → X
      taken n x y =
          lt-cases 8192 (both_bytes D a b)
          (λ h. f Length 2 0 (by-large n x y h))
          (λ h. lt-cases (length out) (both_bytes D a b)
          (λ s. f Room 0 0 (by-short n x y h s))
          (λ s. lt-cases 1008 (length (narrowest_with P D a b))
          (λ m. f Room 0 0 (by-many n x y h s (inl m)))
          (λ m. lt-cases (length out) (512 * blocks_for plain (length (narrowest_with P D a b)))
          (λ l. f Room 0 0 (by-many n x y h s (inr l)))
          (λ l. g (record { pairs = n; first = x; second = y; sixteen = h; output = s; few = m; room = l })))))

  -- [R25] exactly by the first that applies
  pub narrowest_refuses : RefusedExactly (narrowest_named P D a b out) (NarrowestRefused P D a b out)
  narrowest_refuses k i p = (
    λ e. narrowest-cases
        (λ k' i' p' r. same-refused (NarrowestRefused P D a b out) (narrowest-refuses r).0 e r)
        (λ R. refused-answered e (narrowest-answers R)),
    λ r. (narrowest-refuses r).0,
  )

  pub narrowest_stays : NothingWritten (narrowest_named P D a b out) (narrowed_named P D a b out) out
  narrowest_stays k i p e = (narrowest-refuses ((narrowest_refuses k i p).0 e)).1

  -- ---- 7

  last : {k : Cause} {i p : ℕ} → NarrowestRefused P D a b out k i p → number_of k ≡ 7 → SevenDue P D a b out
  last (by-list f) z = absurd (list-number P f z)
  last (by-dictionary n r) z = absurd (dictionary-number D r z)
  last (by-first n T f) z = absurd (not-seven (line-number _ a f) z)
  last (by-second n x f) z = absurd (not-seven (line-number _ b f) z)
  last (by-large n x y h) z = absurd (omega (arith, z))
  last (by-short n x y h s) z = record { pairs = n; first = x; second = y; sixteen = h; why = inl s }
  last (by-many n x y h s m) z = record { pairs = n; first = x; second = y; sixteen = h; why = inr m }

  -- one row or the other
  due : SevenDue P D a b out → NarrowestRefused P D a b out Room 0 0
  due S =
      lt-cases (length out) (both_bytes D a b)
      (λ s. by-short S.pairs S.first S.second S.sixteen s)
      (λ s. ⊎_elim (λ l. absurd (omega arith)) (λ m. by-many S.pairs S.first S.second S.sixteen s m) S.why)

  -- by the number that is returned
  pub narrowest-seven : ((returned (narrowest_named P D a b out)).number ≡ 7) ↔ SevenDue P D a b out
  narrowest-seven = (
    λ e. reading-cases (narrowest_named P D a b out)
        (λ k i p q. let z : number_of k ≡ 7 = rw q at e in last ((narrowest_refuses k i p).0 q) z)
        (λ n q. let z : ◌≡◌ {A = ℕ} 0 7 = rw q at e in absurd (omega arith)),
    λ S. let q = (narrowest-refuses (due S)).0 in rw q refl,
  )
