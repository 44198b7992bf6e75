-- Where the first part ends: at the first later whole block with number 1, or at the end of the list where there is none.
-- Assumes nothing.
use Prim.Native.Nat.{◌%◌, ◌*◌, ◌+◌, ◌-◌, ◌<◌, ◌≤◌, suc, zero, ℕ}
use lib.ListN.{length, length-drop, take-append-drop}
use lib.Seq.{drop-length, length-take-le, take-length}
use mathlib.Core.List.{List, [], ◌++◌}
use mathlib.Core.Logic.{◌≢◌}
use mathlib.Core.Path.{◌≡◌, refl}
use native.Mathlib.Omega.{arith}
use Rattle.base.proofs.Tests.{eq-cases, eq-eqb, lt-cases, ne_eqb}
use Rattle.blocks.specs.Frame.{blocks_in}
use Rattle.blocks.specs.Words.{word_at}
use Rattle.lists.specs.Parts.{Begins, division_from, first_length, first_part, second_part}

-- ---- the search among `left` whole blocks from block i on

-- what it finds: the first of them with number 1
pub record Found (s : List ℕ) (i r : ℕ) : Type 0 where
  pub block : ℕ
  pub from : i ≤ block
  pub whole : 512 * block + 512 ≤ length s
  pub number : word_at s (512 * block) ≡ 1
  pub offset : r ≡ 512 * block
  pub before : (k : ℕ) → i ≤ k → k < block → word_at s (512 * k) ≢ 1

module _ (s : List ℕ) where
  -- each of the blocks is whole
  abbrev Whole : ℕ → ℕ → Type 0
  Whole i left = (k : ℕ) → i ≤ k → k < i + left → 512 * k + 512 ≤ length s

  rest : (i left : ℕ) → Whole i (suc left) → Whole (suc i) left
  rest i left h k lo hi = h k (omega arith) (omega arith)

  at_most : (i left : ℕ) → Whole i left → division_from s i left ≤ length s
  unfolding division_from
  at_most i zero h = omega arith
  at_most i (suc left) h =
      eq-cases (word_at s (512 * i)) 1
      (λ q. rw (division_from, eq-eqb q) (let a = h i (omega arith) (omega arith) in omega arith))
      (λ q. rw (division_from, ne_eqb q) (at_most (suc i) left (rest i left h)))

  found : (i left : ℕ) → Whole i left → division_from s i left < length s → Found s i (division_from s i left)
  unfolding division_from
  found i zero h l = absurd (omega arith)
  found i (suc left) h l =
      eq-cases (word_at s (512 * i)) 1
      (λ q. rw (division_from, eq-eqb q) (found_here i (h i (omega arith) (omega arith)) q))
      (λ q. rw (division_from, ne_eqb q) (found-later i q (found (suc i) left (rest i left h) (rw (division_from, ne_eqb q) at l))))
    where
      found_here : (i : ℕ) → 512 * i + 512 ≤ length s → word_at s (512 * i) ≡ 1 → Found s i (512 * i)
      found_here i h q = record { block = i; from = omega arith; whole = h; number = q; offset = refl; before = λ k lo hi. absurd (omega arith) }

      found-later : (i : ℕ) {r : ℕ} → word_at s (512 * i) ≢ 1 → Found s (suc i) r → Found s i r
      found-later i q f = record {
        block = f.block;
        from = let a = f.from in omega arith;
        whole = f.whole;
        number = f.number;
        offset = f.offset;
        before = λ k lo hi. eq-cases k i (λ e. rw e q) (λ e. f.before k (omega arith) hi);
      }

  none_found : (i left : ℕ) → Whole i left → division_from s i left ≡ length s → (k : ℕ) → i ≤ k → k < i + left → word_at s (512 * k) ≢ 1
  unfolding division_from
  none_found i zero h e k lo hi = absurd (omega arith)
  none_found i (suc left) h e k lo hi =
      eq-cases (word_at s (512 * i)) 1
      (λ q.
      let a : 512 * i ≡ length s = rw (division_from, eq-eqb q) at e in
      let b = h i (omega arith) (omega arith) in
      absurd (omega arith))
      (λ q. eq-cases k i (λ p. rw p q) (λ p. none_found (suc i) left (rest i left h) (rw (division_from, ne_eqb q) at e) k (omega arith) (omega arith)))

  -- ---- the whole list

  whole-blocks : Whole 1 (blocks_in s - 1)
  unfolding blocks_in
  whole-blocks k lo hi = omega arith

  pub first-bound : first_length s ≤ length s
  unfolding first_length
  first-bound = at_most 1 (blocks_in s - 1) whole-blocks

  -- where the first part is not all of the list, it runs up to the first later whole block with number 1
  pub first_found : first_length s < length s → Found s 1 (first_length s)
  unfolding first_length
  first_found l = found 1 (blocks_in s - 1) whole-blocks l

  -- where it is all of the list, there is no such block
  pub undivided : first_length s ≡ length s → (k : ℕ) → Begins s k → ⊥
  unfolding first_length blocks_in
  undivided e k b =
      let lo = b.later in
      let h = b.whole in
      none_found 1 (blocks_in s - 1) whole-blocks e k lo (omega arith) b.number

  -- and the other way round
  pub undivided-by-none : ((k : ℕ) → Begins s k → ⊥) → first_length s ≡ length s
  undivided-by-none h =
      let b = first-bound in
      lt-cases (first_length s) (length s)
      (λ l.
      let f = first_found l in
      absurd (h f.block (record { later = f.from; whole = f.whole; number = f.number })))
      (λ l. omega arith)

  -- ---- its length

  -- of a list with a byte it has a byte
  pub first_some : 0 < length s → 0 < first_length s
  first_some h =
      lt-cases (first_length s) (length s)
      (λ l. let f = first_found l in let a = f.from in let b = f.offset in omega arith)
      (λ l. omega arith)

  -- of whole blocks it has whole blocks
  pub first-whole : length s % 512 ≡ 0 → first_length s % 512 ≡ 0
  first-whole h =
      let b = first-bound in
      lt-cases (first_length s) (length s)
      (λ l. let f = first_found l in let o = f.offset in omega arith)
      (λ l. let e : first_length s ≡ length s = omega arith in rw e h)

  pub length-first : length (first_part s) ≡ first_length s
  length-first = length-take-le (first_length s) s first-bound

  pub length-second : length (second_part s) ≡ length s - first_length s
  length-second = length-drop (first_length s) s

  -- ---- the first part, and what is left

  -- [Q2] D is the rest
  pub parts_join : first_part s ++ second_part s ≡ s
  parts_join = take-append-drop (first_length s) s

  -- [Q2] without one, C is all
  pub no_second : ((k : ℕ) → Begins s k → ⊥) → (first_part s ≡ s) × (second_part s ≡ [])
  no_second h = let e = undivided-by-none h in (rw (e, take-length), rw (e, drop-length))
