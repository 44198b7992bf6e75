-- What dividing the input means: it is divided at the first later whole block with number 1. Crate lists has the laws for an input that
-- is not divided.
-- Assumes nothing.
use Prim.Native.Nat.{◌<◌, ℕ}
use lib.ListN.{length}
use mathlib.Core.List.{List}
use mathlib.Core.Path.{◌≡◌}
use native.Mathlib.Omega.{arith}
use Rattle.base.proofs.Tests.{lt-cases}
use Rattle.lists.proofs.FirstPart.{first-bound, first_found, undivided}
use Rattle.lists.specs.Parts.{first_length}
use Rattle.report.specs.Promise.{FirstLater}

module _ (s : List ℕ) where
  -- where C is not all of the input, it runs up to the first later whole block with number 1
  pub divided : first_length s < length s → FirstLater s (first_length s)
  divided l =
      let f = first_found s l in
      record {
        block = f.block;
        begins = record { later = f.from; whole = f.whole; number = f.number };
        offset = f.offset;
        none_before = λ k h b. f.before k b.later h b.number;
      }

  -- and the other way round
  pub divided-by-first : {r : ℕ} → FirstLater s r → first_length s ≡ r
  divided-by-first f =
      let b = first-bound s in
      lt-cases (first_length s) (length s)
      (λ l. let g = divided l in
      lt-cases f.block g.block
      (λ q. absurd (g.none_before f.block q f.begins))
      (λ p. lt-cases g.block f.block
      (λ q. absurd (f.none_before g.block q g.begins))
      (λ q. let x = f.offset in let y = g.offset in omega arith)))
      (λ l. absurd (undivided s (omega arith) f.block f.begins))
