-- The tables of the places of a description, as the code keeps them.
-- Assumes nothing.
use Rattle.std.specs.Prelude.{◌≡◌, ◌≤◌, ℕ, List, get_or, length}
use Rattle.blocks.specs.Entries.{nth, zero_entry}
use Rattle.blocks.specs.declared.Entry.{Entry}
use Rattle.places.specs.Owned.{next_of, owned_after}

-- the first entry of each place, and after each entry the next one of its place; 0 where there is none
pub record Chained (es : List Entry) (first next : List ℕ) : Type 0 where
  pub begins : (o : ℕ) → get_or first o 0 ≡ owned_after es o 0
  pub follows : (n : ℕ) → get_or next n 0 ≡ next_of es n

-- the same of tables that may be longer, up to the last entry; and the entries by number
pub record Filled (es : List Entry) (entries : List Entry) (first next : List ℕ) : Type 0 where
  pub numbered : (n : ℕ) → n ≤ length es → get_or entries n zero_entry ≡ nth es n
  pub begins : (o : ℕ) → o ≤ length es → get_or first o 0 ≡ owned_after es o 0
  pub follows : (n : ℕ) → n ≤ length es → get_or next n 0 ≡ next_of es n
