-- The record that facts say, and the facts of the entries of a delivered record.
-- Assumes nothing.
use Rattle.std.specs.Prelude.{◌≡◌, ℕ, ◌+◌, ◌-◌, ◌*◌, ◌/◌, ◌<◌, ◌≤◌, ◌&&◌, Bool, false, List, [], ◌∷◌, eqb, get_or, cond, length}
use Rattle.std.specs.List.{list_any}
use Rattle.base.specs.Range.{bit}
use Rattle.blocks.specs.Entries.{entries_of}
use Rattle.blocks.specs.declared.Entry.{Entry}
use Rattle.delivered.specs.Record.{delivered_record}
use Rattle.items.specs.code.Facts.{item_in, target_in}
use Rattle.logic.specs.Record.{Record, fits}
use Rattle.meaning.specs.Description.{place_of}
use Rattle.names.specs.NamedReading.{sent_of}

-- the record by its facts: 256 items, which a fact numbers from 0 on
unfoldable pub record_in : List ℕ → Record
record_in fs =
    record {
      size = 256;
      property = λ p x. list_any (λ f. eqb (f / 65536) (2 * p) && eqb (item_in f) x) fs;
      link = λ l x y. list_any (λ f. eqb (f / 65536) (2 * l + 1) && (eqb (item_in f) x && eqb (target_in f) y)) fs;
    }

-- the fact of an entry: what it says, 2 * name for a property and 2 * name + 1 for a link, then the item, then the one that it links to
unfoldable pub fact_of : Entry → ℕ
fact_of e = 65536 * (2 * e.name + bit (eqb e.kind 8)) + 256 * (e.owner - 1) + (e.number - 1)

-- what the facts ask of an entry of a record of `total` items
pub record Allowed (total : ℕ) (e : Entry) : Type 0 where
  pub kind : (e.kind ≡ 8 → ⊥) → e.kind ≡ 1
  pub item : 1 ≤ e.owner
  pub few : e.owner ≤ total
  pub other : e.kind ≡ 8 → (1 ≤ e.number) × (e.number ≤ total)
  pub blank : (e.kind ≡ 8 → ⊥) → e.number ≡ 0

-- each of a list passes
abbrev pub AllOf : (Entry → Type 0) → List Entry → Type 0
AllOf P [] = Unit {0}
AllOf P (e ∷ es) = P e × AllOf P es

-- the entries of a place passed where entry `at` comes next, or no entry, which is 0
unfoldable pub passed : List Entry → ℕ → ℕ
passed es at = cond (eqb at 0) (length es) (at - 1)

-- the marks of the items that fit what a description stands for
abbrev pub Marked : List ℕ → ℕ → List Entry → List ℕ → List Bool → Type 0
Marked D total es d marks =
    (x : ℕ) → x < 256 → get_or marks x false ≡ fits (delivered_record total es) (place_of (entries_of (sent_of D d)) 0) x
