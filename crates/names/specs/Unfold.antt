-- Named entries replaced by what they stand for: the plain description of a description with names, and the contents of a dictionary.
-- Assumes nothing.
use Rattle.std.specs.Prelude.{◌+◌, suc, zero, ℕ, eqb, length, cond, List, [], ◌++◌, ◌∷◌, map}
use Rattle.blocks.specs.Entries.{is_named}
use Rattle.blocks.specs.declared.Entry.{Entry}

-- ---- entries

-- an entry with another owner
abbrev pub owned_by : ℕ → Entry → Entry
owned_by o e = record { kind = e.kind; reserved = e.reserved; owner = o; name = e.name; number = e.number }

-- the number of entry j among entries that stand m numbers later; o stands for the top
abbrev pub shifted : ℕ → ℕ → ℕ → ℕ
shifted m o zero = o
shifted m o (suc j) = m + suc j

-- an entry of some contents put in after m entries, at the place of o: what the top owned is owned by o
abbrev pub relocate : ℕ → ℕ → Entry → Entry
relocate m o e = owned_by (shifted m o e.owner) e

-- ---- unfolding

-- a table with one value more: that of k is x
abbrev pub noted : {A : Type 0} → (ℕ → A) → ℕ → A → ℕ → A
noted f k x j = cond (eqb j k) x (f j)

-- [D6] the contents of a name stand where it stood, in their order: entries that count from k, where m are written, T
-- gives the contents of each name, and ν the new number of each entry that may own others. A name of empty contents
-- leaves nothing.
unfoldable pub unfold_from : (ℕ → List Entry) → (ℕ → ℕ) → ℕ → ℕ → List Entry → List Entry
unfold_from T ν k m [] = []
unfold_from T ν k m (e ∷ es) =
    cond (is_named e)
    (map (relocate m (ν e.owner)) (T e.name) ++ unfold_from T ν (suc k) (m + length (T e.name)) es)
    (owned_by (ν e.owner) e ∷ unfold_from T (noted ν k (suc m)) (suc k) (suc m) es)

-- a whole description; the top stays the top
unfoldable pub unfolded : (ℕ → List Entry) → List Entry → List Entry
unfolded T es = unfold_from T (λ j. j) 1 0 es

-- ---- a dictionary

-- [D4] names go to earlier descriptions only: what f makes of each description in turn, from what it made of the
-- earlier ones. The descriptions count from k, and `made` gives what there is before them.
unfoldable pub in_turn : {A : Type 0} → ((ℕ → A) → List Entry → A) → (ℕ → A) → ℕ → List (List Entry) → ℕ → A
in_turn f made k [] = made
in_turn f made k (d ∷ ds) = in_turn f (noted made k (f made d)) (suc k) ds

-- the n-th description of a dictionary, as it stands; none for 0 and past the end
unfoldable pub described : List (List Entry) → ℕ → List Entry
described K = in_turn (λ made d. d) (λ n. []) 1 K

-- its contents: without names, each replaced by the contents of an earlier description
unfoldable pub contents : List (List Entry) → ℕ → List Entry
contents K = in_turn unfolded (λ n. []) 1 K

-- [D7] a plain description of the same meaning: the description that es stands for, under a dictionary
unfoldable pub unfolded_by : List (List Entry) → List Entry → List Entry
unfolded_by K es = unfolded (contents K) es
