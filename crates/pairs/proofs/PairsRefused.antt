-- The list of pairs is refused exactly by its first fault, with number 11 and input 0, at the place that 11 gives.
-- Assumes nothing.
use Prim.Native.Nat.{◌+◌, ℕ}
use mathlib.Core.List.{List}
use mathlib.Core.Logic.{◌≢◌, inl, inr}
use mathlib.Core.Path.{◌∙◌, ◌≡◌, ap, sym}
use native.Mathlib.Omega.{arith}
use Rattle.base.proofs.SearchLaws.{Least, first-least}
use Rattle.base.proofs.Tests.{bool_cases, false_of_not, true_of_not}
use Rattle.base.specs.Search.{first_from}
use Rattle.blocks.proofs.Refusing.FirstFault.{first_found, found_first}
use Rattle.blocks.proofs.Refusing.Readings.{refused-finding}
use Rattle.blocks.proofs.Refusing.SearchedRows.{found-place, rows-searched}
use Rattle.blocks.specs.Faults.{first, Faulty}
use Rattle.blocks.specs.Promise.{FirstOf}
use Rattle.blocks.specs.Refusals.{number_of, refused}
use Rattle.pairs.specs.Pairs.{list_wrong, pair_count, pair_faults, pair_wrong, pairs_reading}
use Rattle.pairs.specs.Promise.{LowestWrong, WrongAt}
use Rattle.pairs.specs.code.Search.{pair_right}
use Rattle.blocks.specs.declared.Cause.{Cause}
use Rattle.blocks.specs.declared.Cause.TheVariants.{Pairs}

module _ (P : List ℕ) where
  least-wrong : {p : ℕ} → Least (pair_right P) 1 (1 + pair_count P) p → LowestWrong P p
  least-wrong l = record {
    from = l.low;
    to = omega (arith, l.high);
    wrong = true_of_not _ l.fails;
    before = λ j lo hi. false_of_not _ (l.before j lo hi);
  }

  wrong-place : {k : Cause} {p : ℕ} → first (pair_faults P) ≡ Faulty k p → (k ≡ Pairs) × WrongAt P p
  unfolding pair_faults first
  wrong-place {k} {p} e =
      bool_cases (list_wrong P)
      (λ q.
      let g : Faulty Pairs 0 ≡ Faulty k p = rw (pair_faults, q) at e in
      let a : k ≡ Pairs = cc in
      let b : p ≡ 0 = cc in
      (a, inl (q, b)))
      (λ q.
      let w = first_from (pair_right P) 1 (pair_count P) in
      let r = found-place Pairs w (sym (rows-searched (pair_wrong P) Pairs 1 (pair_count P) (omega arith)) ∙ rw (pair_faults, q) at e) in
      (r.0, inr (q, least-wrong (first-least (pair_right P) 1 (pair_count P) r.1.0 r.1.1))))

  pub pairs-refused : {k : Cause} {p : ℕ} → FirstOf (pair_faults P) k p → pairs_reading P ≡ refused k 0 p
  unfolding pairs_reading
  pairs-refused {k} {p} f = rw (pairs_reading, first_found (pair_faults P) k p f)

  module _ {k : Cause} {i p : ℕ} (e : pairs_reading P ≡ refused k i p) where
    finding : (i ≡ 0) × (first (pair_faults P) ≡ Faulty k p)
    unfolding pairs_reading
    finding = refused-finding 0 (pair_count P) (first (pair_faults P)) e

    -- [R11] 11: the first that applies
    pub first-of-pairs : (k ≡ Pairs) × ((i ≡ 0) × FirstOf (pair_faults P) k p)
    first-of-pairs = ((wrong-place finding.1).0, (finding.0, found_first (pair_faults P) k p finding.1))

    pub refused-at : WrongAt P p
    refused-at = (wrong-place finding.1).1

    -- so never with 7
    pub list-number : number_of k ≢ 7
    list-number z = let e : number_of k ≡ 11 = ap number_of first-of-pairs.0 in omega arith
