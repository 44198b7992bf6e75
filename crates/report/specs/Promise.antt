-- What the promises of the program speak of: the first later block with number 1, a number in decimal, and what the program writes.
-- Assumes nothing.
use Rattle.std.specs.Prelude.{◌*◌, ◌+◌, ◌-◌, ◌<◌, ◌≤◌, suc, zero, ℕ, drop, get_or, length, replicate, take, List, [], ◌++◌, ◌∷◌, ◌≡◌}
use Rattle.compare.specs.Answer.{Comparison}
use Rattle.lists.specs.Parts.{Begins, first_part, second_part}
use Rattle.named.specs.Answer.{compare_named, output_named}
use Rattle.report.specs.Lines.{specimen_lines}
use Rattle.report.specs.Text.{input_bytes, line_of, line_text}

-- r is the offset of the first later whole block with number 1
pub record FirstLater (s : List ℕ) (r : ℕ) : Type 0 where
  pub block : ℕ
  pub begins : Begins s block
  pub offset : r ≡ 512 * block
  pub none_before : (k : ℕ) → k < block → Begins s k → ⊥

-- each byte is a digit, `0` to `9`
abbrev pub AllDigits : List ℕ → Type 0
AllDigits [] = Unit {0}
AllDigits (d ∷ t) = (48 ≤ d) × (d ≤ 57) × AllDigits t

-- the number that digits say which follow others that say v
abbrev pub value_from : ℕ → List ℕ → ℕ
value_from v [] = v
value_from v (d ∷ t) = value_from (10 * v + (d - 48)) t

-- t is the number n in decimal, with no zero in front but that of 0 itself
pub record Decimal (n : ℕ) (t : List ℕ) : Type 0 where
  pub digits : AllDigits t
  pub value : value_from 0 t ≡ n
  pub some : 1 ≤ length t
  pub lead : get_or t 0 0 ≡ 48 → t ≡ 48 ∷ []

-- ---- what the program writes

-- t is written where `line_text` is called for `left` lines from line n on, one after the other, and after each call as many bytes of the
-- buffer are written as it returns: b is the buffer before a call, b' after it, and r what the call returns, as its contract says
pub data Writes (a : Comparison) (blocks : List ℕ) : ℕ → ℕ → List ℕ → Type 0 where
  none : {n : ℕ} → Writes a blocks n zero []
  line : {n left r : ℕ} (b : List ℕ) {b' t : List ℕ} → r ≡ length (line_text (line_of a blocks n)) → b' ≡ line_text (line_of a blocks n) ++ drop r b
      → Writes a blocks (suc n) left t → Writes a blocks n (suc left) (take r b' ++ t)

-- the output that the program lends, and what it writes for the input s that it has read: the lines of the answer, from line 0 to the last
abbrev pub lent : List ℕ
lent = replicate input_bytes 0

pub record Prints (s t : List ℕ) : Type 0 where
  pub answer : Comparison
  pub blocks : List ℕ
  -- [Q3] a dictionary of length 0, and no pairs; without a second part D has length 0 [Q5]
  pub answered : answer ≡ compare_named [] [] (first_part s) (second_part s) lent
  pub shown : blocks ≡ output_named [] [] (first_part s) (second_part s) lent
  pub written : Writes answer blocks 0 (suc (specimen_lines answer)) t
