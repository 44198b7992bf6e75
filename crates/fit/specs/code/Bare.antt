-- Groups that own nothing, and places that an item with nothing fits, as the code tells them. No public promise names these.
-- Assumes nothing.
use Rattle.std.specs.Prelude.{◌<◌, ℕ, eqb, get_or, length, Bool, ◌&&◌, ◌||◌, false, not, true, List, ◌≡◌}
use Rattle.blocks.specs.Entries.{nth}
use Rattle.blocks.specs.declared.Entry.{Entry}
use Rattle.meaning.specs.Owned.{all_owned}

-- none of the first n entries that o owns tells
unfoldable pub quiet : (Entry → Bool) → List Entry → ℕ → ℕ → Bool
quiet tells es o n = all_owned (λ k. not (tells (nth es k))) es o n

-- any entry tells that its owner owns something
abbrev pub any_entry : Entry → Bool
any_entry e = true

-- an item with nothing does not meet an entry: it is no lack, no at most, no 'every', and no at least 0
abbrev pub demands : Entry → Bool
demands e = not (eqb e.kind 2 || (eqb e.kind 4 || (eqb e.kind 5 || (eqb e.kind 3 && eqb e.number 0))))

-- group g owns nothing; an item with nothing fits the place that entry o owns
abbrev pub bare : List Entry → ℕ → Bool
bare s g = quiet any_entry s g (length s)

abbrev pub bare_fits : List Entry → ℕ → Bool
bare_fits d o = quiet demands d o (length d)

-- marks, of `most`: those of the owners of the first n entries of whose entries one tells
pub record Marked (tells : Entry → Bool) (es : List Entry) (n most : ℕ) (marks : List Bool) : Type 0 where
  pub size : length marks ≡ most
  pub mark : (o : ℕ) → o < most → get_or marks o false ≡ not (quiet tells es o n)
