-- What the promises on lists of calls speak of.
-- Assumes nothing.
use Rattle.std.specs.Prelude.{◌≡◌, ◌≢◌, ℕ, suc, ◌≤◌, ◌&&◌, ◌==◌, nat_le, not, List, [], ◌∷◌, ◌++◌, length, Ok, None}
use Rattle.blocks.specs.Faults.{Fault, entry_rows, fault}
use Rattle.blocks.specs.declared.Cause.TheVariants.{Empty, Full, Stand}
use Rattle.blocks.specs.declared.Entry.{Entry}
use Rattle.blocks.specs.declared.Schema.TheVariants.{Description}
use Rattle.drafts.specs.declared.Call.TheVariants as call
use Rattle.drafts.specs.declared.Call.{Call}
use Rattle.drafts.specs.Draft.{Held, Kept, adding, after, answered, empty, find, known, run, with_entry}

-- [R16] [R17] [R18] what a call may be refused for, as lines of one list: the first that applies refuses it
abbrev pub call_faults : Held → Call → List Fault
call_faults d (call.Add e) = fault (nat_le 1008 (length d.draft)) Full 0 ∷ entry_rows Description (with_entry d.draft e) (suc (length d.draft))
call_faults d call.TakeOff = fault (length d.draft == 0) Empty 0 ∷ []
call_faults d (call.Name s) = fault (s == 0) Stand 0 ∷ fault (not (known s d.stands) && nat_le 4 (length d.stands)) Stand 0 ∷ []
call_faults d (call.GoBack s) = fault (not (known s d.stands)) Stand 0 ∷ []
call_faults d (call.Drop s) = fault (not (known s d.stands)) Stand 0 ∷ []

-- a call that neither gives the number s nor drops it; a list of such calls
abbrev pub leaves : ℕ → Call → Type 0
leaves s (call.Name t) = s ≢ t
leaves s (call.Drop t) = s ≢ t
leaves s (call.Add e) = Unit {0}
leaves s call.TakeOff = Unit {0}
leaves s (call.GoBack t) = Unit {0}

abbrev pub AllLeave : ℕ → List Call → Type 0
AllLeave s [] = Unit {0}
AllLeave s (c ∷ cs) = leaves s c × AllLeave s cs

-- [O9] going back to a stand that is neither named again nor dropped since yields the description held when its name
-- was last given: `later` are the calls since then
pub record History (d : Held) (s : ℕ) (later : List Call) : Type 0 where
  pub accepted : answered (run (after d (call.Name s)) later) (call.GoBack s) ≡ Ok (length d.draft)
  pub yields : (after (run (after d (call.Name s)) later) (call.GoBack s)).draft ≡ d.draft

-- a description that adding entry by entry gives: none of them is refused
pub record Grown (es : List Entry) : Type 0 where
  pub few : length es ≤ 1008
  pub each : (xs : List Entry) (e : Entry) (ys : List Entry) → es ≡ xs ++ (e ∷ ys) → adding xs e ≡ Ok (suc (length xs))

-- each stand has a number of its own, which is not 0, and keeps such a description
abbrev pub Standing : List Kept → Type 0
Standing [] = Unit {0}
Standing (t ∷ ts) = (t.number ≢ 0) × (find t.number ts ≡ None) × Grown t.entries × Standing ts

-- [O1] what a desk holds that some list of calls gives, said of what it holds
pub record Sound (d : Held) : Type 0 where
  pub draft : Grown d.draft
  pub few : length d.stands ≤ 4
  pub stands : Standing d.stands

-- some list of calls gives it, from an empty desk
pub record Given (d : Held) : Type 0 where
  pub calls : List Call
  pub gives : run empty calls ≡ d
