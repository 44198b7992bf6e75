-- The single links met among the entries of a delivered record, as the code keeps them: the key of each, an owner and a link as one
-- number, and beside it the item that it leads to. No public promise names them.
-- Assumes nothing.
use Rattle.std.specs.Prelude.{◌≡◌, ℕ, ◌-◌, ◌<◌, ◌≤◌, cond, true, List, length, get_or, Option, Some, None}
use Rattle.base.specs.Keys.{numbered}
use Rattle.blocks.specs.Entries.{nth}
use Rattle.blocks.specs.code.SingleTable.{Listed, key_of}
use Rattle.blocks.specs.declared.Cause.{Cause}
use Rattle.blocks.specs.declared.Cause.TheVariants.{Double, Form, Item}
use Rattle.blocks.specs.declared.Entry.{Entry}
use Rattle.delivered.specs.Reading.{another, form_ok, items_ok, single_link}

-- one of the first n entries is such a link, has key x and leads to item m
pub record OfLink (es : List Entry) (n x m : ℕ) : Type 0 where
  pub entry : ℕ
  pub low : 1 ≤ entry
  pub high : entry ≤ n
  pub link : single_link (nth es entry) ≡ true
  pub key : x ≡ key_of (nth es entry)
  pub number : m ≡ (nth es entry).number
  pub small : (nth es entry).name < 65536

-- the keys are those of the single links among the first n entries, each with the one item that they lead to
pub record Noted (es : List Entry) (keys items : List ℕ) (n : ℕ) : Type 0 where
  pub few : length keys ≤ n
  pub met : (k : ℕ) → 1 ≤ k → k ≤ length keys → OfLink es n (numbered keys k) (numbered items k)
  pub held : (j : ℕ) → 1 ≤ j → j ≤ n → single_link (nth es j) ≡ true → Listed keys (key_of (nth es j))
  pub same : (j k : ℕ) → 1 ≤ j → j ≤ n → single_link (nth es j) ≡ true → 1 ≤ k → k ≤ length keys → numbered keys k ≡ key_of (nth es j)
      → (nth es j).number ≡ numbered items k

-- why entry n is refused, 4 before 10 before 9, if it is
unfoldable pub delivered_refusal : ℕ → List Entry → ℕ → Option Cause
delivered_refusal total es n =
    cond (form_ok (nth es n)) (cond (items_ok total (nth es n)) (cond (another es n) (Some Double) None) (Some Item)) (Some Form)
