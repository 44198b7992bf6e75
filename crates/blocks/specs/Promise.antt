-- What the promises of the block layer speak of: the first fault that applies, and lists of entries that no rule refuses.
-- Assumes nothing.
use Rattle.std.specs.Prelude.{◌≡◌, ℕ, ◌≤◌, true, false, List, [], ◌∷◌, ◌++◌, length}
use Rattle.blocks.specs.Entries.{form_ok, name_given, nth}
use Rattle.blocks.specs.Faults.{Fault, fault}
use Rattle.blocks.specs.Owners.{depth_ok, owner_ok}
use Rattle.blocks.specs.Single.{single_ok}
use Rattle.blocks.specs.declared.Cause.{Cause}
use Rattle.blocks.specs.declared.Entry.{Entry}
use Rattle.blocks.specs.declared.Schema.TheVariants.{Description, Named, Specimen}
use Rattle.blocks.specs.declared.Schema.{Schema}

-- none of the faults applies
unfoldable pub NoneApplies : List Fault → Type 0
NoneApplies [] = Unit {0}
NoneApplies (f ∷ fs) = (f.applies ≡ false) × NoneApplies fs

-- the first that applies has the cause k and gives the place p: none before it applies
pub record FirstOf (fs : List Fault) (k : Cause) (p : ℕ) : Type 0 where
  pub before : List Fault
  pub after : List Fault
  pub listed : fs ≡ before ++ (fault true k p ∷ after)
  pub none : NoneApplies before

-- [R27] each entry has an allowed form, an allowed owner, and an allowed depth
pub record Legal (σ : Schema) (es : List Entry) : Type 0 where
  pub form : (n : ℕ) → 1 ≤ n → n ≤ length es → form_ok σ (nth es n) ≡ true
  pub owner : (n : ℕ) → 1 ≤ n → n ≤ length es → owner_ok σ es n ≡ true
  pub depth : (n : ℕ) → 1 ≤ n → n ≤ length es → depth_ok es n ≡ true

-- [S5] no group brings its owner above one item by a single link. Apart from `Legal`: what a record of a legal list
-- keeps is a reason for this.
pub record Single (es : List Entry) : Type 0 where
  pub each : (n : ℕ) → 1 ≤ n → n ≤ length es → single_ok es n ≡ true

-- what the schema's other lines than 4, 5 and 6 ask: of a plain description nothing [S4]
abbrev pub Further : Schema → List Entry → Type 0
Further Description es = Unit {0}
Further Specimen es = Single es
Further (Named most) es = (n : ℕ) → 1 ≤ n → n ≤ length es → name_given most (nth es n) ≡ true
