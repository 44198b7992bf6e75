-- The profile of field sheets: has, at least, at most and 'every', with numbers of at most 99, and entries at most 3
-- links deep.
-- Assumes nothing.
use Rattle.std.specs.Prelude.{◌≤◌, ℕ, length, List, ◌⊎◌, ◌≡◌}
use Rattle.blocks.specs.Entries.{nth}
use Rattle.blocks.specs.Owners.{depth_of}
use Rattle.blocks.specs.declared.Entry.{Entry}

pub record InProfile (es : List Entry) (n : ℕ) : Type 0 where
  pub kind : ((nth es n).kind ≡ 1) ⊎ (((nth es n).kind ≡ 3) ⊎ (((nth es n).kind ≡ 4) ⊎ ((nth es n).kind ≡ 5)))
  pub number : (nth es n).number ≤ 99
  pub depth : depth_of es n ≤ 3

abbrev pub Sheet : List Entry → Type 0
Sheet es = (n : ℕ) → 1 ≤ n → n ≤ length es → InProfile es n
