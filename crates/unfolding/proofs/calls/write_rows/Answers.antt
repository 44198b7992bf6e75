-- `write_rows` meets its contract.
use Prim.Native.Nat.{◌*◌, ◌≤◌, suc, zero, ℕ}
use lib.Dec.{eqb}
use lib.ListN.{length}
use mathlib.Core.Bool.{false, not, true}
use mathlib.Core.List.{List, map}
use mathlib.Core.Logic.{◌≢◌}
use mathlib.Core.Path.{◌∙◌, ◌≡◌, ap, refl}
use native.Mathlib.Omega.{arith}
use Rattle.base.proofs.Tests.{tests}
use Rattle.blocks.specs.Encoding.{blocks_for, encode}
use Rattle.blocks.specs.Frame.{plain}
use Rattle.blocks.specs.declared.Entry.{Entry}
use Rattle.unfolding.proofs.CallLaws.{all-rows, long-written, short-written}
use Rattle.unfolding.specs.Answer.{over}
use Rattle.unfolding.specs.code.Rows.{entry_of_row}
use Rattle.unfolding.proofs.calls.write_rows.Goals as goal

none-written : (n : ℕ) → not (eqb n 0) ≡ false → n ≡ 0
none-written zero h = refl
none-written (suc n) h = let e : eqb (suc n) 0 ≡ false = omega tests in let g = rw e at h in cc

some-written : (n : ℕ) → not (eqb n 0) ≡ true → n ≢ 0
some-written zero h e = cc
some-written (suc n) h e = omega arith

few : (numbers : List ℕ) {es : List Entry} → map entry_of_row numbers ≡ es → length es ≤ 1008 → length numbers ≤ 1008
few numbers q h = omega (arith, (all-rows numbers q).1)

pub returns-clause-short : goal.returns-clause-short
returns-clause-short c z =
    let numbers = c.numbers-numbers.result.now in
    let r : c.write_entries.result ≡ 0 = none-written _ z in
    let S = short-written c.args.out.now numbers (length numbers) (omega arith) (few numbers c.numbers-numbers.ensures.0 c.requires) c.write_entries.ensures.0 r in
    (omega (arith, S.0, ap (λ (k : ℕ). 512 * blocks_for plain k) (all-rows numbers c.numbers-numbers.ensures.0).1), c.write_entries.ensures.1 ∙ S.1)

pub returns-clause-long : goal.returns-clause-long
returns-clause-long c z =
    let numbers = c.numbers-numbers.result.now in
    let r : c.write_entries.result ≢ 0 = some-written _ z in
    let S = long-written c.args.out.now numbers (length numbers) (omega arith) (few numbers c.numbers-numbers.ensures.0 c.requires) c.write_entries.ensures.0 r in
    let A = all-rows numbers c.numbers-numbers.ensures.0 in (
      omega (arith, S.0, ap (λ (k : ℕ). 512 * blocks_for plain k) A.1),
      c.write_entries.ensures.1 ∙ S.1 ∙ ap (λ (es : List Entry). over (encode es) c.args.out.now) A.0,
    )
