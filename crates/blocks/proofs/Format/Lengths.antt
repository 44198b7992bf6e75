-- Number 1 of the table of refusals: whole blocks, at least one and at most the limit.
-- Assumes nothing.
use Rattle.std.proofs.Common.{◌≡◌, ℕ, ◌*◌, ◌%◌, ◌<◌, ◌≤◌, Bool, false, not, ◌||◌, eqb, ltb, ◌≢◌, List, length, arith}
use Rattle.base.proofs.Tests.{ge-ltb, ltb-ge, eq-eqb, eqb-eq, ne_eqb, eqb-ne, not-to-false, true_of_not, or-none, neither_left, neither_right}
use Rattle.blocks.specs.Frame.{blocks_in}
use Rattle.blocks.specs.Entries.{limit_of}
use Rattle.blocks.specs.Faults.{length_wrong}
use Rattle.blocks.specs.declared.Schema.{Schema}
use Rattle.blocks.specs.declared.Schema.TheVariants.{Description, Named, Specimen}

-- every limit allows a block
pub limit-pos : (σ : Schema) → 0 < limit_of σ
limit-pos Description = omega arith
limit-pos Specimen = omega arith
limit-pos (Named most) = omega arith

-- such a length does not break number 1
pub length-right : (σ : Schema) (s : List ℕ) (n : ℕ) → length s ≡ 512 * n → 0 < n → n ≤ limit_of σ → length_wrong σ s ≡ false
unfolding length_wrong
length-right σ s n e pos h =
    let some : length s ≢ 0 = omega arith in
    let whole : length s % 512 ≡ 0 = omega arith in
    let few : length s ≤ 512 * limit_of σ = omega arith in
    or-none (ne_eqb some) (or-none (not-to-false (eq-eqb whole)) (ge-ltb few))

-- a length that does not break it is such a length
module _ (σ : Schema) (s : List ℕ) (right : length_wrong σ s ≡ false) where
  -- the tests of number 1 after the first
  abbrev part : Bool
  part = not (eqb (length s % 512) 0)

  abbrev long : Bool
  long = ltb (512 * limit_of σ) (length s)

  part-or-long : (part || long) ≡ false
  unfolding length_wrong
  part-or-long = neither_right (eqb (length s) 0) (part || long) right

  -- whole blocks, at least one, at most the limit
  pub whole-blocks : length s ≡ 512 * blocks_in s
  unfolding blocks_in
  whole-blocks =
      let e : length s % 512 ≡ 0 = eqb-eq (true_of_not _ (neither_left part long part-or-long)) in
      omega arith

  pub some_block : 0 < blocks_in s
  unfolding length_wrong
  some_block =
      let e : length s ≢ 0 = eqb-ne (neither_left (eqb (length s) 0) (part || long) right) in
      omega (arith, whole-blocks)

  pub few-blocks : blocks_in s ≤ limit_of σ
  few-blocks =
      let e : length s ≤ 512 * limit_of σ = ltb-ge (neither_right part long part-or-long) in
      omega (arith, whole-blocks)
