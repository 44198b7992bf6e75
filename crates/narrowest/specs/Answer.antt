-- The answer of asking for the narrowest description that contains two, and the output that it leaves, under a list of pairs.
-- Assumes nothing.
use Rattle.std.specs.Prelude.{◌*◌, ◌+◌, ℕ, ltb, drop, length, cond, Bool, ◌||◌, List, ◌++◌, Ok, Err}
use Rattle.blocks.specs.Encoding.{blocks_for, encode}
use Rattle.blocks.specs.Frame.{plain}
use Rattle.blocks.specs.Reading.{Reading, reading_of}
use Rattle.blocks.specs.Refusals.{refused, unless_refused}
use Rattle.blocks.specs.declared.Cause.TheVariants.{Length, Room}
use Rattle.blocks.specs.declared.Entry.{Entry}
use Rattle.blocks.specs.declared.Schema.TheVariants.{Description}
use Rattle.narrow_listed.specs.Listed.{narrowest_under}
use Rattle.pairs.specs.Pairs.{pairs_reading}

-- both inputs together have more than 16 blocks
abbrev pub above_sixteen : List ℕ → List ℕ → Bool
above_sixteen a b = ltb 8192 (length a + length b)

-- n entries are no description, which has at most 1,008, or their blocks do not fit the output
abbrev pub too_many : List ℕ → ℕ → Bool
too_many out n = ltb 1008 n || ltb (length out) (512 * blocks_for plain n)

-- two accepted inputs: 1 at input 2 for more than 16 blocks of both; 7 for an output that is shorter than both; 7 for a result that is no
-- description or does not fit the output; else its number of entries
unfoldable pub narrowest_room : List ℕ → List ℕ → List ℕ → List ℕ → Reading
narrowest_room P a b out =
    cond (above_sixteen a b) (refused Length 2 0)
    (cond (ltb (length out) (length a + length b)) (refused Room 0 0)
    (cond (too_many out (length (narrowest_under P a b))) (refused Room 0 0) (Ok (length (narrowest_under P a b)))))

-- [R25] 11, input 1, input 2, and then these
unfoldable pub narrowest_of : List ℕ → List ℕ → List ℕ → List ℕ → Reading
narrowest_of P a b out =
    unless_refused Err (pairs_reading P)
    (unless_refused Err (reading_of Description 1 a) (unless_refused Err (reading_of Description 2 b) (narrowest_room P a b out)))

-- entries as blocks at the start of an output; later bytes stay
abbrev pub laid : List Entry → List ℕ → List ℕ
laid es out = encode es ++ drop (512 * blocks_for plain (length es)) out

-- the output after each answer: a refusal leaves it as it was [R21]
unfoldable pub narrowed_of : List ℕ → List ℕ → List ℕ → List ℕ → List ℕ
narrowed_of P a b out = unless_refused (λ e. out) (narrowest_of P a b out) (laid (narrowest_under P a b) out)
