-- What all records that are spoken of keep [S15]. A cap on the items that one item is linked to by a link, and
-- properties that exclude each other, are told apart here from what descriptions say.
-- Assumes nothing.
use Rattle.std.specs.Prelude.{◌≡◌, Bool, true, false, cond, ◌&&◌, ℕ, ◌≤◌, ◌<◌}
use Rattle.std.proofs.Math.Option.{Option, none, some}
use Rattle.base.specs.Links.{is_single}
use Rattle.logic.specs.Record.{Record, successors}

pub record Background : Type 0 where
  pub cap : ℕ → Option ℕ
  pub excludes : ℕ → ℕ → Bool

-- caps allow an item; exclusion holds both ways, and of no property with itself
pub record LawfulBackground (b : Background) : Type 0 where
  pub some_item : (l m : ℕ) → b.cap l ≡ some m → 1 ≤ m
  pub both_ways : (p q : ℕ) → b.excludes p q ≡ b.excludes q p
  pub not_itself : (p : ℕ) → b.excludes p p ≡ false

-- [F2] a record that keeps a background
pub record Keeps (b : Background) (c : Record) : Type 0 where
  pub caps : (l m x : ℕ) → b.cap l ≡ some m → x < c.size → successors c l x ≤ m
  pub exclusions : (p q x : ℕ) → b.excludes p q ≡ true → x < c.size → (c.property p x && c.property q x) ≡ false

-- what every record keeps: [S1] the rule on single links
abbrev pub standing : Background
standing = record { cap = λ l. cond (is_single l) (some 1) none; excludes = λ p q. false }

-- a background with the standing rule in it: what else it has are exclusions
pub record Ruled (b : Background) : Type 0 where
  pub lawful : LawfulBackground b
  pub caps : (l : ℕ) → b.cap l ≡ standing.cap l
