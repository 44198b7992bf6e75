-- Reading a description that may name others, and a dictionary: the refusals, in their order.
-- Assumes nothing.
use Rattle.std.specs.Prelude.{◌%◌, ◌+◌, ℕ, eqb, ltb, length, Bool, ◌&&◌, ◌||◌, cond, not, List, [], ◌++◌, ◌∷◌, map, Ok, Err}
use Rattle.base.specs.Range.{all}
use Rattle.blocks.specs.Encoding.{encode}
use Rattle.blocks.specs.Entries.{entries_of, is_named}
use Rattle.blocks.specs.Faults.{Fault, fault, faults, first}
use Rattle.blocks.specs.Frame.{plain, total_in}
use Rattle.blocks.specs.Owners.{depth_ok}
use Rattle.blocks.specs.Reading.{answer, Reading}
use Rattle.blocks.specs.Refusals.{number_of, unless_refused, refused}
use Rattle.blocks.specs.declared.Entry.{Entry}
use Rattle.blocks.specs.declared.Schema.TheVariants.{Named}
use Rattle.lists.specs.Parts.{parts_of}
use Rattle.names.specs.NamedForm.{named_form_ok}
use Rattle.names.specs.Unfold.{unfolded_by}
use Rattle.blocks.specs.declared.Cause.{Cause}
use Rattle.blocks.specs.declared.Cause.TheVariants.{Name, Size, Count, Length}

-- ---- a description

-- [R14] too large once unfolded
unfoldable pub too_large : List Entry → Bool
too_large es = ltb 1008 (length es) || not (all (depth_ok es) 1 (length es))

-- the lines of a description under a dictionary: those of its blocks, of which no more are sent than of any other
-- [D9], and of its entries, and last 14 [R24]
unfoldable pub named_faults : List (List Entry) → List ℕ → List Fault
named_faults K s = faults (Named (length K)) s ++ (fault (too_large (unfolded_by K (entries_of s))) Size 0 ∷ [])

-- [D11] accepted with a dictionary: reading s as input i
unfoldable pub named_reading : List (List Entry) → ℕ → List ℕ → Reading
named_reading K i s = answer i (total_in plain s) (first (named_faults K s))

-- ---- no dictionary

-- [D10] Where no name can be given, an entry that is one is refused as 13; as one of a plain description it would be
-- as 4.
unfoldable pub cause_at : Entry → Cause → Cause
cause_at e k = cond (eqb (number_of k) 4 && (is_named e && named_form_ok e)) Name k

-- what reading answers then, where e gives the entries
abbrev pub unnamed : (ℕ → Entry) → Reading → Reading
unnamed e (Err r) = refused (cause_at (e r.place) r.cause) r.input r.place
unnamed e (Ok n) = Ok n

-- ---- a dictionary

-- its descriptions, as entries: [D1] a list of descriptions, or of length 0
abbrev pub dictionary_of : List ℕ → List (List Entry)
dictionary_of D = map entries_of (parts_of D)

-- [D2] the n-th description is input 100 + n, each in full before the next: those that come after the descriptions of
-- K
unfoldable pub parts_reading : List (List Entry) → List (List ℕ) → Reading
parts_reading K [] = Ok (length K)
parts_reading K (s ∷ ss) = unless_refused Err (named_reading K (101 + length K) s) (parts_reading (K ++ (entries_of s ∷ [])) ss)

-- 1, no multiple of 512, and 8, more than 64 descriptions, at input 2 of a list of services [L6], here at input 100
-- [D2]; then the descriptions
unfoldable pub dictionary_reading : List ℕ → Reading
dictionary_reading D =
    cond (eqb (length D % 512) 0)
    (cond (ltb 64 (length (parts_of D))) (refused Count 100 0) (parts_reading [] (parts_of D)))
    (refused Length 100 0)

-- ---- what a call goes on with

-- the blocks of the plain description that s stands for under a dictionary
unfoldable pub plain_of : List ℕ → List ℕ → List ℕ
plain_of D s = encode (unfolded_by (dictionary_of D) (entries_of s))

-- a description, input i, under a dictionary that is accepted: a refusal, or how many entries it has once unfolded
unfoldable pub named_unfolding : List (List Entry) → ℕ → List ℕ → Reading
named_unfolding K i s = unless_refused Err (named_reading K i s) (Ok (length (unfolded_by K (entries_of s))))

-- a dictionary, and after it a description
unfoldable pub unfolding_of : List ℕ → ℕ → List ℕ → Reading
unfolding_of D i s = unless_refused Err (dictionary_reading D) (named_unfolding (dictionary_of D) i s)

-- [D13] the bytes that a call goes on with: a dictionary of length 0 leaves a description as it is sent
unfoldable pub sent_of : List ℕ → List ℕ → List ℕ
sent_of D s = cond (eqb (length D) 0) s (plain_of D s)
