-- What a yes is worth on arrival: where C is contained in D, each specimen that fits C fits D. A specimen that is accepted under a list keeps
-- the list and the rule that 'contained' ranges over.
-- Assumes nothing.
use Prim.Native.Nat.{ℕ}
use mathlib.Core.List.{List}
use mathlib.Core.Path.{◌≡◌}
use native.Mathlib.Omega.{arith}
use Rattle.blocks.specs.Entries.{entries_of}
use Rattle.clashes.proofs.KeptApart.{read_keeps}
use Rattle.compare.proofs.PromiseKept.{compared-list, contained-means}
use Rattle.compare.specs.Answer.{compare_of}
use Rattle.std.specs.Prelude.{None, Ok, true}
use Rattle.fit.proofs.PromiseKept.{answered-judgeable, fit-exactly}
use Rattle.fit.specs.Answer.{fit_of}
use Rattle.fit.specs.Promise.{Judgeable}
use Rattle.meaning.specs.Specimen.{record_of}

module _ (P s c d out : List ℕ) where
  -- an accepted specimen is judged by each description that is accepted
  judged-too : compare_of P c d out ≡ Ok None → Judgeable P s c → Judgeable P s d
  judged-too e j =
      compared-list P c d out
      (λ k i p q. let z : ◌≡◌ {A = ℕ} 0 1 = cc in absurd (omega arith))
      (λ n l r. record { first = j.first; second = r.second; first_read = j.first_read; second-read = r.second-read })

  -- contained, and fit yes for C, give fit yes for D
  pub contained-fits : compare_of P c d out ≡ Ok None → fit_of P s c ≡ Ok true → fit_of P s d ≡ Ok true
  unfolding record_of
  contained-fits e y =
      answered-judgeable P s c
      (λ k i p q. let z : ◌≡◌ {A = ℕ} 0 1 = cc in absurd (omega arith))
      (λ j.
      let keeps = read_keeps P s j.first_read in
      let all = (contained-means P c d out e).0 in
      (fit-exactly P s d (judged-too e j)).yes.1 (all (record_of (entries_of s)) keeps 0 (omega arith) ((fit-exactly P s c j).yes.0 y)))
