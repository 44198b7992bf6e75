-- A list that is cut: how many services it has, and that these are few.
-- Assumes nothing.
use Prim.Native.Nat.{◌%◌, ◌≤◌, ℕ}
use lib.Dec.{eqb, ltb}
use lib.ListN.{length}
use mathlib.Core.Bool.{not, ◌||◌}
use mathlib.Core.List.{List}
use mathlib.Core.Path.{◌≡◌}
use native.Mathlib.Omega.{arith}
use Rattle.base.proofs.Tests.{bool_cases, ltb-ge}
use Rattle.blocks.specs.Refusals.{refused}
use Rattle.blocks.specs.declared.Cause.TheVariants.{Count, Length}
use Rattle.lists.specs.Parts.{parts_of}
use Rattle.slots.specs.Catalogue.{cut_reading}
use Rattle.std.specs.Prelude.{Ok}

pub cut-taken : (list : List ℕ) {n : ℕ} → cut_reading list ≡ Ok n → (n ≡ length (parts_of list)) × (n ≤ 64)
unfolding cut_reading
cut-taken list {n} e =
    bool_cases (eqb (length list) 0 || not (eqb (length list % 512) 0))
    (λ q. let z : refused Length 2 0 ≡ Ok n = rw q at e in cc)
    (λ q. bool_cases (ltb 64 (length (parts_of list)))
    (λ w. let z : refused Count 2 0 ≡ Ok n = rw (q, w) at e in cc)
    (λ w.
    let z : Ok (length (parts_of list)) ≡ Ok n = rw (q, w) at e in
    let y : n ≡ length (parts_of list) = cc in
    let l : length (parts_of list) ≤ 64 = ltb-ge w in
    (y, omega arith)))

pub cut-few : (list : List ℕ) {n : ℕ} → cut_reading list ≡ Ok n → length (parts_of list) ≤ 64
cut-few list e = let t = cut-taken list e in omega (arith, t.0, t.1)
