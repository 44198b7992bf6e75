-- What the calls that unfold answer, and the bytes that they leave.
-- Assumes nothing.
use Rattle.std.specs.Prelude.{◌*◌, ℕ, ltb, drop, length, cond, List, ◌++◌, Result, Ok, Err}
use Rattle.blocks.specs.Encoding.{blocks_for}
use Rattle.blocks.specs.Frame.{plain}
use Rattle.blocks.specs.Refusals.{unless_refused, refused}
use Rattle.blocks.specs.Reading.{Reading}
use Rattle.names.specs.NamedReading.{plain_of, unfolding_of}
use Rattle.blocks.specs.declared.Refusal.{Refusal}
use Rattle.blocks.specs.declared.Cause.TheVariants.{Room}

-- bytes written from the start of an output; later bytes stay [D12]
abbrev pub over : List ℕ → List ℕ → List ℕ
over bytes out = bytes ++ drop (length bytes) out

-- ---- one description

-- [D12] 7 exactly where the output is shorter than what would be written
abbrev pub short_by : List ℕ → Reading → Reading
short_by out (Err e) = Err e
short_by out (Ok n) = cond (ltb (length out) (512 * blocks_for plain n)) (refused Room 0 0) (Ok n)

-- unfolding input i to an output: a refusal, or how many entries are written; and the output after it
unfoldable pub unfold_at : List ℕ → ℕ → List ℕ → List ℕ → Reading
unfold_at D i s out = short_by out (unfolding_of D i s)

unfoldable pub unfolded_at : List ℕ → ℕ → List ℕ → List ℕ → List ℕ
unfolded_at D i s out = unless_refused (λ e. out) (unfold_at D i s out) (over (plain_of D s) out)

-- ---- two descriptions

-- inputs 1 and 2, to two outputs: the first refusal, or how many entries are written to each
abbrev pub Unfolded : Type 0
Unfolded = Result (ℕ × ℕ) Refusal

abbrev pub both_by : Reading → Reading → Unfolded
both_by (Err e) r = Err e
both_by (Ok n) (Err e) = Err e
both_by (Ok n) (Ok m) = Ok (n, m)

unfoldable pub both_of : List ℕ → List ℕ → List ℕ → List ℕ → List ℕ → Unfolded
both_of D c d a b = both_by (unfold_at D 1 c a) (unfold_at D 2 d b)

-- the second output: it stays where the first is not written
unfoldable pub second_after : List ℕ → List ℕ → List ℕ → List ℕ → List ℕ → List ℕ
second_after D c d a b = unless_refused (λ e. b) (unfold_at D 1 c a) (unfolded_at D 2 d b)
