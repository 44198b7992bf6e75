-- Why an input is refused: the numbers of the table of refusals, what an answer says that may be a refusal, and the words of one.
-- Assumes nothing.
use Rattle.std.specs.Fmt.{decimal}
use Rattle.std.specs.Prelude.{ℕ, Result, Ok, Err, List, ◌++◌, codes}
use Rattle.blocks.specs.declared.Cause.{Cause}
use Rattle.blocks.specs.declared.Cause.TheVariants.{Length, Check, Framing, Form, Owner, Depth, Room, Count, Double, Item, Pairs, Clash, Name, Size, Walking, Full, Empty, Stand, Profile, Desk}
use Rattle.blocks.specs.declared.Refusal.{Refusal}

-- The table of refusals: the number of each row, and what the row says.
-- Length: [R1] the input's length is 0, no multiple of 512, or over the limit
-- Check: [R2] a check of a block is wrong
-- Framing: [R3] a block's number or used count is wrong, or a byte due to be zero in its frame or unused entries
-- Form: [R4] an entry's kind is not allowed, its byte 1 is not zero, or its name or number is outside the table of
-- kinds
-- Owner: [R5] an entry's owner is not earlier, or not of kind 5 (in a specimen 7)
-- Depth: [R6] a depth over 32
-- Room: [R7] the output is too short
-- Count: [R8] more than 64 services, or more than 64 descriptions of a dictionary
-- Double: [R9] a group of a specimen that brings its owner above one item by a link that leads to one item only
-- Item: an item number of a record of 0 or above the total, or a total of 0 or over 256
-- Pairs: [R11] a length that is no multiple of 4 or over 64 pairs, or a pair with a 0 or two equal numbers
-- Clash: [R12] an item of a specimen or of a record that has both of a pair
-- Name: [R13] a name of 0, above the dictionary's count, or in the dictionary not earlier
-- Size: [R14] a description, in the dictionary or not, of more than 1,008 entries or depth over 32 once unfolded
-- Walking: a stored entry whose nearest earlier entry of lesser depth is no 'every' one less deep
-- Full: adding to a desk that holds 1,008 entries
-- Empty: taking off from a desk that holds none
-- Stand: a stand's number of 0, or one that is not known, or one that would be the fifth
-- Profile: an entry outside the field-sheet profile
-- Desk: a desk that no list of calls gives, or memory below its fixed size
abbrev pub number_of : Cause → ℕ
number_of Length = 1
number_of Check = 2
number_of Framing = 3
number_of Form = 4
number_of Owner = 5
number_of Depth = 6
number_of Room = 7
number_of Count = 8
number_of Double = 9
number_of Item = 10
number_of Pairs = 11
number_of Clash = 12
number_of Name = 13
number_of Size = 14
number_of Walking = 15
number_of Full = 16
number_of Empty = 17
number_of Stand = 18
number_of Profile = 19
number_of Desk = 20

-- a refusal, and the answer that it is
abbrev pub refusal : Cause → ℕ → ℕ → Refusal
refusal k i p = record { cause = k; input = i; place = p }

abbrev pub refused : {A : Type 0} → Cause → ℕ → ℕ → Result A Refusal
refused k i p = Err (refusal k i p)

-- [Q3] the words of a refusal
abbrev pub refused_text : Refusal → List ℕ
refused_text e = codes "refused " ++ (decimal (number_of e.cause) ++ (codes " input " ++ (decimal e.input ++ (codes " place " ++ decimal e.place))))

-- an answer that takes accepted inputs: where reading one of them refuses it, that refusal instead
abbrev pub unless_refused : {A B : Type 0} → (Refusal → B) → Result A Refusal → B → B
unless_refused refuse (Err e) b = refuse e
unless_refused refuse (Ok a) b = b
