-- The keys of the groups met by links that lead to one item only, as the code keeps them: the owner and the link of each, as one
-- number. No public promise names them.
-- Assumes nothing.
use Rattle.std.specs.Prelude.{◌≡◌, ℕ, ◌+◌, ◌*◌, ◌<◌, ◌≤◌, true, List, length}
use Rattle.base.specs.Keys.{numbered}
use Rattle.blocks.specs.Entries.{nth}
use Rattle.blocks.specs.Single.{single_group}
use Rattle.blocks.specs.declared.Entry.{Entry}

-- the owner and the link of a group as one number
abbrev pub key_of : Entry → ℕ
key_of e = 65536 * e.owner + e.name

-- one of the first n entries is such a group and has key x
pub record OfGroup (es : List Entry) (n x : ℕ) : Type 0 where
  pub entry : ℕ
  pub low : 1 ≤ entry
  pub high : entry ≤ n
  pub group : single_group (nth es entry) ≡ true
  pub key : x ≡ key_of (nth es entry)
  pub small : (nth es entry).name < 65536

-- key x is among those of a list
pub record Listed (keys : List ℕ) (x : ℕ) : Type 0 where
  pub number : ℕ
  pub some : 1 ≤ number
  pub within : number ≤ length keys
  pub has : numbered keys number ≡ x

-- the keys are those of such groups among the first n entries, each once
pub record Kept (es : List Entry) (keys : List ℕ) (n : ℕ) : Type 0 where
  pub few : length keys ≤ n
  pub met : (k : ℕ) → 1 ≤ k → k ≤ length keys → OfGroup es n (numbered keys k)
  pub held : (k : ℕ) → 1 ≤ k → k ≤ n → single_group (nth es k) ≡ true → Listed keys (key_of (nth es k))
