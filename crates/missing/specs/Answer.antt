-- The answer of asking what a description lacks for a service, and the output that it leaves.
-- Assumes nothing.
use Rattle.std.specs.Prelude.{◌+◌, ℕ, eqb, ltb, length, cond, Bool, List, [], ◌∷◌, Result, Ok, Err}
use Rattle.blocks.specs.Entries.{entries_of, entry}
use Rattle.blocks.specs.Reading.{reading_of}
use Rattle.blocks.specs.Refusals.{refused, unless_refused}
use Rattle.blocks.specs.declared.Cause.TheVariants.{Length, Room}
use Rattle.blocks.specs.declared.Entry.{Entry}
use Rattle.blocks.specs.declared.Refusal.{Refusal}
use Rattle.blocks.specs.declared.Schema.TheVariants.{Description}
use Rattle.earning.specs.Answer.{contained, marked_bytes}
use Rattle.meaning.specs.Failing.{failing}
use Rattle.missing.specs.declared.Lack.TheVariants.{Addable, Against, Nothing}
use Rattle.missing.specs.declared.Lack.{Lack}
use Rattle.narrow.specs.Missing.{both, missing}
use Rattle.pairs.specs.Pairs.{pairs_reading, under}

-- what is lacking, or a refusal
abbrev pub Lacking : Type 0
Lacking = Result Lack Refusal

-- a description that no item fits
abbrev pub impossible : List Entry
impossible = entry 6 0 0 0 ∷ []

-- [M1] no item fits both C and D: together they are contained in what no item fits
abbrev pub against : List ℕ → List ℕ → List ℕ → Bool
against P c d = eqb (failing (under P) (both (entries_of c) (entries_of d)) impossible) 0

-- [M1] nothing; or what no item fits, or what some item may
abbrev pub lack_of : List ℕ → List ℕ → List ℕ → Lack
lack_of P c d = cond (contained P c d) Nothing (cond (against P c d) Against Addable)

-- [M2] entry n of D is to be added
abbrev pub lacks : List ℕ → List ℕ → List ℕ → ℕ → Bool
lacks P c d = missing (under P) (entries_of c) (entries_of d)

-- [M7] an answer, after the pairs, input 1, input 2, both together over 16 blocks, and an output with no byte for each entry of D
abbrev pub asked_both : {A : Type 0} → List ℕ → List ℕ → List ℕ → List ℕ → A → Result A Refusal
asked_both P c d out a =
    unless_refused Err (pairs_reading P) (unless_refused Err (reading_of Description 1 c) (unless_refused Err (reading_of Description 2 d)
    (cond (ltb 8192 (length c + length d)) (refused Length 2 0) (cond (ltb (length out) (length (entries_of d))) (refused Room 0 0) (Ok a)))))

unfoldable pub missing_of : List ℕ → List ℕ → List ℕ → List ℕ → Lacking
missing_of P c d out = asked_both P c d out (lack_of P c d)

-- [M6] the output: a refusal leaves it
unfoldable pub lacked_of : List ℕ → List ℕ → List ℕ → List ℕ → List ℕ
lacked_of P c d out = unless_refused (λ e. out) (missing_of P c d out) (marked_bytes (lacks P c d) (length (entries_of d)) out)
