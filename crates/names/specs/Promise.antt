-- What the promises on named descriptions speak of.
-- Assumes nothing.
use Rattle.std.specs.Prelude.{◌≤◌, suc, ℕ, length, false, true, List, [], ◌∷◌, ◌≡◌}
use Rattle.blocks.specs.Entries.{is_named, name_given, nth}
use Rattle.blocks.specs.Owners.{depth_ok, owner_ok}
use Rattle.blocks.specs.Promise.{Legal}
use Rattle.blocks.specs.declared.Entry.{Entry}
use Rattle.blocks.specs.declared.Schema.TheVariants.{Description}
use Rattle.logic.specs.Record.{Record, fits}
use Rattle.meaning.specs.Description.{place_of}
use Rattle.names.specs.NamedForm.{named_form_ok}
use Rattle.names.specs.NamedMeaning.{fits_named}
use Rattle.names.specs.Unfold.{contents, unfolded_by}

-- no entry is a name
abbrev pub Plain : List Entry → Type 0
Plain es = (n : ℕ) → 1 ≤ n → n ≤ length es → is_named (nth es n) ≡ false

-- each entry has a form that descriptions with names allow
abbrev pub FormsOk : List Entry → Type 0
FormsOk es = (n : ℕ) → 1 ≤ n → n ≤ length es → named_form_ok (nth es n) ≡ true

-- each entry is owned by the top or by an earlier 'every': so by no name
abbrev pub OwnersOk : List Entry → Type 0
OwnersOk es = (n : ℕ) → 1 ≤ n → n ≤ length es → owner_ok Description es n ≡ true

-- each description of a dictionary is as P says, where k descriptions stand before them
abbrev pub EachAfter : (ℕ → List Entry → Type 0) → ℕ → List (List Entry) → Type 0
EachAfter P k [] = Unit {0}
EachAfter P k (d ∷ ds) = P k d × EachAfter P (suc k) ds

abbrev pub Each : (ℕ → List Entry → Type 0) → List (List Entry) → Type 0
Each P K = EachAfter P 0 K

-- [D7] the unfolded description means the same: the same items fit, in every record
abbrev pub SameMeaning : List (List Entry) → List Entry → Type 0
SameMeaning K es = (c : Record) (x : ℕ) → fits c (place_of (unfolded_by K es) 0) x ≡ fits_named c K es x

-- each entry has an allowed form, a name that may be given if it is a name, an allowed owner and an allowed depth
pub record LegalNamed (most : ℕ) (es : List Entry) : Type 0 where
  pub form : FormsOk es
  pub name : (n : ℕ) → 1 ≤ n → n ≤ length es → name_given most (nth es n) ≡ true
  pub owner : OwnersOk es
  pub depth : (n : ℕ) → 1 ≤ n → n ≤ length es → depth_ok es n ≡ true

-- 14 does not apply, where es are the entries once unfolded [R14]: at most 1,008, and none of depth above 32
pub record SmallEnough (es : List Entry) : Type 0 where
  pub size : length es ≤ 1008
  pub depth : (n : ℕ) → 1 ≤ n → n ≤ length es → depth_ok es n ≡ true

-- [D4] names go to earlier descriptions only, and 14 applies to none, named or not
pub record LegalDictionary (K : List (List Entry)) : Type 0 where
  pub each : Each LegalNamed K
  pub small : (n : ℕ) → SmallEnough (contents K n)

-- [D11] accepted with a dictionary: by its entries
pub record AcceptedNamed (K : List (List Entry)) (es : List Entry) : Type 0 where
  pub dictionary : LegalDictionary K
  pub legal : LegalNamed (length K) es
  pub small : SmallEnough (unfolded_by K es)

-- 14 by a size and levels that are worked out without unfolding
pub record Within (size levels : ℕ) : Type 0 where
  pub few : size ≤ 1008
  pub shallow : levels ≤ 33

-- [D7] the unfolded description means the same: one that no rule refuses
pub record UnfoldsPlainly (K : List (List Entry)) (es : List Entry) : Type 0 where
  pub legal : Legal Description (unfolded_by K es)
  pub plain : Plain (unfolded_by K es)
  pub means : SameMeaning K es
