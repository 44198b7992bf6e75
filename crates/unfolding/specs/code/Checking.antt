-- One pass over the entries of a description, which checks and measures them: how far it has come, and what it answers.
-- Assumes nothing.
use Rattle.std.specs.Prelude.{◌*◌, ◌+◌, ◌≤◌, max, suc, ℕ, drop, get_or, length, List, ◌≢◌, ◌≡◌, Result, Ok, Err}
use Rattle.blocks.specs.Faults.{Clean, Faulty, first}
use Rattle.blocks.specs.code.ReadingSteps.{rule_faults}
use Rattle.blocks.specs.declared.Entry.{Entry}
use Rattle.blocks.specs.declared.Refusal.{Refusal}
use Rattle.blocks.specs.declared.Schema.TheVariants.{Named}
use Rattle.names.specs.Measures.{levels_by, levels_from, size_by}
use Rattle.unfolding.specs.declared.Extent.{Extent}

-- i entries are passed: what they come to, and what those that are left add to it. `depth` is the depth of what each entry owns; a table has
-- one more than it for each that may own others.
pub record Gone (S L : ℕ → ℕ) (es : List Entry) (t : List ℕ) (total most i : ℕ) : Type 0 where
  pub depth : ℕ → ℕ
  pub owns : (j : ℕ) → j ≤ i → get_or t j 0 ≢ 0 → get_or t j 0 ≡ suc (depth j)
  pub few : i ≤ length es
  pub bound : total ≤ 65535 * i
  pub size : size_by S es ≡ total + size_by S (drop i es)
  pub deep : levels_by L es ≡ max most (levels_from L depth (suc i) (drop i es))

-- what going over all of them answers
abbrev pub CheckedAll : ℕ → (ℕ → ℕ) → (ℕ → ℕ) → List Entry → ℕ → ℕ → Result Extent Refusal → Type 0
CheckedAll most S L es total i (Err e) = (first (rule_faults (Named most) es 1 total) ≡ Faulty e.cause e.place) × (e.input ≡ i)
CheckedAll most S L es total i (Ok x) = (first (rule_faults (Named most) es 1 total) ≡ Clean) × (x.size ≡ size_by S es) × (x.levels ≡ levels_by L es)
