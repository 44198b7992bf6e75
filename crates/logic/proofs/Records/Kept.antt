-- What every record keeps is lawful: a link that leads to one item allows that one, and nothing is excluded.
-- Assumes nothing.
use Prim.Native.Nat.{◌≤◌, ℕ}
use mathlib.Core.Bool.{Bool, cond, false, false≢true, true}
use mathlib.Core.Option.{Option, none, some}
use mathlib.Core.Path.{◌∙◌, ◌≡◌, refl}
use native.Mathlib.Omega.{arith}
use Rattle.base.specs.Links.{is_single}
use Rattle.logic.specs.Background.{Background, Keeps, LawfulBackground, Ruled, standing}
use Rattle.logic.specs.Record.{Record}

-- a cap of a single link, or none
cap-allows : (s : Bool) (m : ℕ) → ◌≡◌ {A = Option ℕ} (cond s (some 1) none) (some m) → 1 ≤ m
cap-allows true m e = let z : 1 ≡ m = cc in omega arith
cap-allows false m e = let z : ◌≡◌ {A = ℕ} 0 1 = cc in absurd (omega arith)

pub lawful-standing : LawfulBackground standing
lawful-standing =
    record { some_item = λ l m e. cap-allows (is_single l) m e; both_ways = λ p q. refl; not_itself = λ p. refl }

pub ruled-standing : Ruled standing
ruled-standing = record { lawful = lawful-standing; caps = λ l. refl }

-- a record that keeps a background keeps the standing rule that is in it
pub keeps-standing : {b : Background} {r : Record} → Ruled b → Keeps b r → Keeps standing r
keeps-standing R k =
    record { caps = λ l m x e h. k.caps l m x (R.caps l ∙ e) h; exclusions = λ p q x e h. absurd (false≢true e) }
