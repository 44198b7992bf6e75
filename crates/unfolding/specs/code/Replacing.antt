-- What going over entries whose names are replaced asks of them, and how far it has come.
-- Assumes nothing.
use Rattle.std.specs.Prelude.{◌+◌, ◌-◌, ◌<◌, ◌≤◌, suc, ℕ, leb, drop, get_or, length, take, cond, true, List, ◌++◌, ◌≡◌, None, Option, Some}
use Rattle.blocks.specs.Entries.{is_named, nth, zero_entry}
use Rattle.blocks.specs.declared.Entry.{Entry}
use Rattle.names.specs.Measures.{size_nth}
use Rattle.names.specs.Unfold.{contents, owned_by, relocate, unfold_from}
use Rattle.unfolding.specs.declared.contents.Opening.{Opening}
use Rattle.unfolding.specs.declared.contents.Place.{Place}

-- each name has its number in a table of 65
abbrev pub NamesFew : List Entry → Type 0
NamesFew es = (n : ℕ) → 1 ≤ n → n ≤ length es → is_named (nth es n) ≡ true → (nth es n).name ≤ 64

-- what is written, and what the entries after the first i still give; T gives what each name becomes, and a table the new number of each
-- entry that may own others
abbrev pub pending : (ℕ → List Entry) → List Entry → List ℕ → ℕ → List Entry → List Entry
pending T es number i out = out ++ unfold_from T (λ j. get_or number j 0) (suc i) (length out) (drop i es)

-- a pass over entries that comes to `whole` has gone over i of them
pub record Passing (T : ℕ → List Entry) (es whole : List Entry) (number : List ℕ) (i : ℕ) (out : List Entry) : Type 0 where
  pub all : pending T es number i out ≡ whole

-- ---- contents that are put in again

-- an entry of contents that were put in after p entries, put in again after m, at the place of o
unfoldable pub again : ℕ → ℕ → ℕ → Entry → Entry
again p m o e = owned_by (cond (leb e.owner p) o (m + (e.owner - p))) e

-- contents stand among entries, put in after the first p, at the place of one of these
pub record StandsAt (inner : List Entry) (p k : ℕ) (es : List Entry) : Type 0 where
  pub top : ℕ
  pub low : top ≤ p
  pub long : k ≡ length inner
  pub within : p + k ≤ length es
  pub there : (j : ℕ) → j < k → get_or es (p + j) zero_entry ≡ relocate p top (get_or inner j zero_entry)

-- a table says where what names stand for is, and how many entries it has; nothing for a name that is not put in yet
pub record Stood (K : List (List Entry)) (places : List (Option Place)) (es : List Entry) : Type 0 where
  pub put : (n : ℕ) (p : Place) → get_or places n None ≡ Some p → StandsAt (contents K n) p.first p.count es

-- ---- descriptions that are open

-- those after the first ones in a table: names are of descriptions that stand for something, and an entry's owner stands before it
pub record Opened (K : List (List Entry)) (first : ℕ) (es : List Entry) : Type 0 where
  pub within : first ≤ length es
  pub names : (i : ℕ) → first ≤ i → i < length es → is_named (get_or es i zero_entry) ≡ true
      → (1 ≤ (get_or es i zero_entry).name) × (((get_or es i zero_entry).name ≤ length K) × (1 ≤ size_nth K (get_or es i zero_entry).name))
  pub owners : (i : ℕ) → first ≤ i → i < length es → (get_or es i zero_entry).owner ≤ i

-- what a desk says of the output: where names stand, and numbers of entries that are there
pub record Laid (K : List (List Entry)) (d : Opening) (out : List Entry) : Type 0 where
  pub stood : Stood K d.stood out
  pub bound : (j : ℕ) → get_or d.number j 0 ≤ length out

-- what is open is as before, and so are the numbers of the first k
pub record Same (k : ℕ) (a b : Opening) : Type 0 where
  pub opened : b.opened ≡ a.opened
  pub number : take k b.number ≡ take k a.number
