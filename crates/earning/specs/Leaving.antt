-- Leaving out entries of one description beside another, whose entries all stay, while both together are contained in a third.
-- Assumes nothing.
use Rattle.std.specs.Prelude.{ℕ, eqb, ltb, length, cond, Bool, ◌&&◌, List, Ok}
use Rattle.blocks.specs.Entries.{entries_of}
use Rattle.blocks.specs.Refusals.{refused}
use Rattle.blocks.specs.declared.Cause.TheVariants.{Room}
use Rattle.blocks.specs.declared.Entry.{Entry}
use Rattle.earning.specs.Answer.{Asked, marked_bytes}
use Rattle.logic.specs.Background.{Background}
use Rattle.meaning.specs.Failing.{failing}
use Rattle.narrow.specs.Earned.{sayers}
use Rattle.narrow.specs.Keeping.{keep_from, marked, thinned}
use Rattle.narrow.specs.Missing.{both}
use Rattle.pairs.specs.Pairs.{under}

-- all of F and, of T, these entries alone: contained in D
abbrev pub suffices_beside : Background → List Entry → List Entry → List Entry → (ℕ → Bool) → Bool
suffices_beside b f t d K = eqb (failing b (both f (thinned K 1 t)) d) 0

-- the entries that are left of T, where each is tried in turn from the last to the first
unfoldable pub left_beside : Background → List Entry → List Entry → List Entry → ℕ → Bool
left_beside b f t d = keep_from (suffices_beside b f t d) (length t) (sayers t)

-- all of F and all of T are contained in D
abbrev pub together : List ℕ → List ℕ → List ℕ → List ℕ → Bool
together P f t d = eqb (failing (under P) (both (entries_of f) (entries_of t)) (entries_of d)) 0

-- entry n of T is left, or owns one that is; where they are not contained, none is
abbrev pub stays_in : List ℕ → List ℕ → List ℕ → List ℕ → ℕ → Bool
stays_in P f t d n = together P f t d && marked (left_beside (under P) (entries_of f) (entries_of t) (entries_of d)) (entries_of t) n

-- whether they are contained; or an output with no byte for each entry of T
unfoldable pub leaving_of : List ℕ → List ℕ → List ℕ → List ℕ → List ℕ → Asked
leaving_of P f t d out = cond (ltb (length out) (length (entries_of t))) (refused Room 0 0) (Ok (together P f t d))

-- the output: a refusal leaves it
unfoldable pub left_of : List ℕ → List ℕ → List ℕ → List ℕ → List ℕ → List ℕ
left_of P f t d out = cond (ltb (length out) (length (entries_of t))) out (marked_bytes (stays_in P f t d) (length (entries_of t)) out)
