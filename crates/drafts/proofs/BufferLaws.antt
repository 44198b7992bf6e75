-- A desk in one buffer: what is read back of counters that are stored, and what it holds after a call.
-- Assumes nothing.
use Rattle.std.proofs.Common.{◌≡◌, ℕ, ◌+◌, ◌*◌, ◌/◌, ◌%◌, ◌≤◌, List, [], ◌∷◌, ◌++◌, drop, length, length-append, length-take, get_or, take, refl, ap, ap₂, ◌∙◌, arith}
use lib.Seq.{drop_at}
use Rattle.base.proofs.StoresLaws.{stored-front}
use Rattle.base.specs.Stores.{stored}
use Rattle.blocks.specs.Encoding.{joined}
use Rattle.blocks.specs.Words.{word_at, word_bytes}
use Rattle.drafts.specs.Buffer.{buffer_of, counter_bytes, counters_in, memory_in}
use Rattle.drafts.specs.declared.Desk.{Desk}

-- ---- counters read back

word-back : (x : ℕ) → x % 256 + 256 * (x / 256) ≡ x
word-back x = omega arith

-- a list of four, by its elements
four : (xs : List ℕ) → length xs ≡ 4 → get_or xs 0 0 ∷ get_or xs 1 0 ∷ get_or xs 2 0 ∷ get_or xs 3 0 ∷ [] ≡ xs
four [] h = absurd (omega arith)
four (a ∷ []) h = absurd (omega arith)
four (a ∷ b ∷ []) h = absurd (omega arith)
four (a ∷ b ∷ c ∷ []) h = absurd (omega arith)
four (a ∷ b ∷ c ∷ d ∷ []) h = refl
four (a ∷ b ∷ c ∷ d ∷ e ∷ xs) h = absurd (omega arith)

abbrev desk_of : ℕ → ℕ → List ℕ → List ℕ → Desk
desk_of count stands names counts = record { count = count; stands = stands; names = names; counts = counts }

pub memory-back : (d : Desk) (m : List ℕ) → memory_in (buffer_of d m) ≡ m
unfolding counter_bytes joined word_bytes
memory-back d m = refl

pub counters-back : (d : Desk) (m : List ℕ) → length d.names ≡ 4 → length d.counts ≡ 4 → counters_in (buffer_of d m) ≡ d
unfolding counters_in counter_bytes joined word_bytes word_at
counters-back d m ln lc =
    let w = word-back in
    rw (
      w d.count,
      w d.stands,
      w (get_or d.names 0 0),
      w (get_or d.names 1 0),
      w (get_or d.names 2 0),
      w (get_or d.names 3 0),
      w (get_or d.counts 0 0),
      w (get_or d.counts 1 0),
      w (get_or d.counts 2 0),
      w (get_or d.counts 3 0),
    )
    (ap₂ (desk_of d.count d.stands) (four d.names ln) (four d.counts lc))

-- ---- what a call leaves

pub counters-long : (d : Desk) → length (counter_bytes d) ≡ 20
unfolding counter_bytes joined word_bytes
counters-long d = refl

-- counters stored in front of a memory that is put back
pub put-back : (d : Desk) (b m : List ℕ) → 20 ≤ length b → stored (take 20 b ++ m) 0 (counter_bytes d) ≡ buffer_of d m
put-back d b m h =
    let l = length-take 20 b in
    let k = counters-long d in
    let s : length (counter_bytes d) ≤ length (take 20 b ++ m) = omega (arith, length-append (take 20 b) m) in
    stored-front (take 20 b ++ m) (counter_bytes d) s
    ∙ ap (λ (xs : List ℕ). counter_bytes d ++ xs) (ap (λ (n : ℕ). drop n (take 20 b ++ m)) k ∙ drop_at (take 20 b) m 20 (omega arith))
