-- What a desk holds, what a call answers, and what a desk holds after it.
-- Assumes nothing.
use Rattle.std.specs.Prelude.{ℕ, suc, ◌-◌, Bool, cond, not, ◌&&◌, ◌||◌, eqb, leb, List, [], ◌∷◌, ◌++◌, length, take, Ok, Option, Some, None, is_some, unwrap_or}
use Rattle.blocks.specs.Faults.{entry_rows, first}
use Rattle.blocks.specs.Reading.{answer, Reading}
use Rattle.blocks.specs.Refusals.{refused, unless_refused}
use Rattle.blocks.specs.declared.Cause.TheVariants.{Empty, Full, Stand}
use Rattle.blocks.specs.declared.Entry.{Entry}
use Rattle.blocks.specs.declared.Schema.TheVariants.{Description}
use Rattle.drafts.specs.declared.Call.TheVariants as call
use Rattle.drafts.specs.declared.Call.{Call}

-- [O1] a stand: its number, and the description that is kept
pub record Kept : Type 0 where
  pub number : ℕ
  pub entries : List Entry

-- [O1] a desk holds one description and its stands
pub record Held : Type 0 where
  pub draft : List Entry
  pub stands : List Kept

abbrev pub empty : Held
empty = record { draft = []; stands = [] }

-- ---- stands

-- what is kept under a number, if anything is
unfoldable pub find : ℕ → List Kept → Option (List Entry)
find s [] = None
find s (t ∷ ts) = cond (eqb s t.number) (Some t.entries) (find s ts)

abbrev pub known : ℕ → List Kept → Bool
known s ts = is_some (find s ts)

-- [O4] a number used again replaces its stand; a new one comes last
unfoldable pub keep : ℕ → List Entry → List Kept → List Kept
keep s v [] = record { number = s; entries = v } ∷ []
keep s v (t ∷ ts) = cond (eqb s t.number) (record { number = s; entries = v } ∷ ts) (t ∷ keep s v ts)

-- [O6] a stand dropped
unfoldable pub without : ℕ → List Kept → List Kept
without s [] = []
without s (t ∷ ts) = cond (eqb s t.number) ts (t ∷ without s ts)

-- ---- calls

-- an entry put at the end
abbrev pub with_entry : List Entry → Entry → List Entry
with_entry es e = es ++ (e ∷ [])

-- [O2] the entry may break 4, 5 or 6, and its place is the number that it would have
unfoldable pub adding : List Entry → Entry → Reading
adding es e = answer 1 (suc (length es)) (first (entry_rows Description (with_entry es e) (suc (length es))))

-- all entries but the last
abbrev pub without_last : List Entry → List Entry
without_last es = take (length es - 1) es

-- what a call does where it is not refused
abbrev pub moved : Held → Call → Held
moved d (call.Add e) = record { draft = with_entry d.draft e; stands = d.stands }
moved d call.TakeOff = record { draft = without_last d.draft; stands = d.stands }
moved d (call.Name s) = record { draft = d.draft; stands = keep s d.draft d.stands }
moved d (call.GoBack s) = record { draft = unwrap_or (find s d.stands) d.draft; stands = d.stands }
moved d (call.Drop s) = record { draft = d.draft; stands = without s d.stands }

-- [R18] a stand's number of 0, one that is not known, or one that would be the fifth
abbrev pub no_stand : Reading
no_stand = refused Stand 1 0

-- [O8] how many entries are left
abbrev pub left_in : Held → Reading
left_in d = Ok (length d.draft)

-- [R16, R17, R18] what a call answers
unfoldable pub answered : Held → Call → Reading
answered d (call.Add e) = cond (leb 1008 (length d.draft)) (refused Full 1 0) (adding d.draft e)
answered d call.TakeOff = cond (eqb (length d.draft) 0) (refused Empty 1 0) (left_in (moved d call.TakeOff))
answered d (call.Name s) = cond (eqb s 0 || (not (known s d.stands) && leb 4 (length d.stands))) no_stand (left_in d)
answered d (call.GoBack s) = cond (known s d.stands) (left_in (moved d (call.GoBack s))) no_stand
answered d (call.Drop s) = cond (known s d.stands) (left_in d) no_stand

-- [O8] what a desk holds after a call: a refused one alters nothing
unfoldable pub after : Held → Call → Held
after d c = unless_refused (λ e. d) (answered d c) (moved d c)

-- and after a list of calls
unfoldable pub run : Held → List Call → Held
run d [] = d
run d (c ∷ cs) = run (after d c) cs
