-- A desk in one buffer: its counters, and then its memory.
-- Assumes nothing.
use Rattle.std.specs.Prelude.{ℕ, List, [], ◌∷◌, ◌++◌, drop, get_or, map}
use Rattle.blocks.specs.Encoding.{joined, row_bytes}
use Rattle.blocks.specs.Entries.{entry_from}
use Rattle.blocks.specs.Reading.{Reading}
use Rattle.blocks.specs.Refusals.{unless_refused}
use Rattle.blocks.specs.Words.{word_at, word_bytes}
use Rattle.blocks.specs.declared.Entry.{Entry}
use Rattle.drafts.specs.Draft.{Held}
use Rattle.drafts.specs.declared.Call.{Call}
use Rattle.drafts.specs.Answer.{counters_moved, desk_answer, memory_moved, output_after, write_answer}
use Rattle.drafts.specs.Memory.{held_in}
use Rattle.drafts.specs.declared.Desk.{Desk}

-- [O10] ten words: the number of entries, the number of stands, the numbers of four stands, and the entries of each
unfoldable pub counters_in : List ℕ → Desk
counters_in b = record {
  count = word_at b 0;
  stands = word_at b 2;
  names = word_at b 4 ∷ word_at b 6 ∷ word_at b 8 ∷ word_at b 10 ∷ [];
  counts = word_at b 12 ∷ word_at b 14 ∷ word_at b 16 ∷ word_at b 18 ∷ [];
}

abbrev pub counter_words : Desk → List ℕ
counter_words d =
    d.count ∷ d.stands ∷ get_or d.names 0 0 ∷ get_or d.names 1 0 ∷ get_or d.names 2 0 ∷ get_or d.names 3 0
    ∷ get_or d.counts 0 0 ∷ get_or d.counts 1 0 ∷ get_or d.counts 2 0 ∷ get_or d.counts 3 0 ∷ []

unfoldable pub counter_bytes : Desk → List ℕ
counter_bytes d = joined (map word_bytes (counter_words d))

-- and then the memory
abbrev pub memory_in : List ℕ → List ℕ
memory_in b = drop 20 b

abbrev pub buffer_of : Desk → List ℕ → List ℕ
buffer_of d m = counter_bytes d ++ m

-- what the desk in a buffer holds, what a call on it answers, and what it leaves
unfoldable pub held_at : List ℕ → Held
held_at b = held_in (counters_in b) (memory_in b)

unfoldable pub answer_at : List ℕ → Call → Reading
answer_at b c = desk_answer (counters_in b) (memory_in b) c

-- [O8] a refused call alters no byte
unfoldable pub after_at : List ℕ → Call → List ℕ
after_at b c = unless_refused (λ e. b) (answer_at b c) (buffer_of (counters_moved (counters_in b) c) (memory_moved (counters_in b) (memory_in b) c))

-- and after a list of calls
unfoldable pub run_at : List ℕ → List Call → List ℕ
run_at b [] = b
run_at b (c ∷ cs) = run_at (after_at b c) cs

-- what writing it out answers, and the output
unfoldable pub write_at : List ℕ → List ℕ → Reading
write_at b out = write_answer (counters_in b) (memory_in b) out

unfoldable pub output_at : List ℕ → List ℕ → List ℕ
output_at b out = output_after (counters_in b) (memory_in b) out

-- [O2] the entry of a number of 64 bits: its 8 bytes, low byte first
unfoldable pub entry_numbered : ℕ → Entry
entry_numbered x = entry_from (row_bytes x) 0
