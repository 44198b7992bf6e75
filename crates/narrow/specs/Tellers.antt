-- Which entries of a first description say an entry of a second by themselves; and a set of them that says all, made in
-- one walk from the last to the first, each entry of the second being looked at where its first teller stands.
-- Assumes nothing.
use Rattle.std.specs.Prelude.{suc, zero, ℕ, eqb, length, Bool, false, not, ◌&&◌, ◌||◌, List}
use Rattle.base.specs.Search.{first_from}
use Rattle.blocks.specs.Entries.{nth}
use Rattle.blocks.specs.declared.Entry.{Entry}
use Rattle.logic.specs.Background.{Background}
use Rattle.logic.specs.Normal.{supports}
use Rattle.logic.specs.Tree.{end}
use Rattle.meaning.specs.Description.{atom_of, links_to}
use Rattle.narrow.specs.Told.{tells}

-- ---- questions j, 1 to J, which numbers k, 1 to N, answer

-- some number from 1 to n is in the set
unfoldable pub some_to : (ℕ → Bool) → ℕ → Bool
some_to f zero = false
some_to f (suc n) = f (suc n) || some_to f n

-- the first number from 1 to n that is in the set, 0 where none is
abbrev pub first_to : (ℕ → Bool) → ℕ → ℕ
first_to f n = first_from (λ k. not (f k)) 1 n

-- a number of this set answers question j
abbrev pub answered : (ℕ → ℕ → Bool) → ℕ → (ℕ → Bool) → ℕ → Bool
answered tell N K j = some_to (λ k. K k && tell j k) N

-- n is the first to answer a question that is asked and that no number of this set answers
unfoldable pub wanted : (ℕ → Bool) → (ℕ → ℕ → Bool) → ℕ → ℕ → (ℕ → Bool) → ℕ → Bool
wanted ask tell N J K n = some_to (λ j. ask j && (eqb (first_to (tell j) N) n && not (answered tell N K j))) J

-- a set, and of the numbers 1 to n, from the last to the first, each that is wanted beside what is taken by then
unfoldable pub taken : ((ℕ → Bool) → ℕ → Bool) → ℕ → (ℕ → Bool) → ℕ → Bool
taken W zero K = K
taken W (suc n) K = taken W n (λ k. K k || (eqb k (suc n) && W K (suc n)))

-- ---- entries of D, which entries of C say

-- entry j of D asks something: it is no 'every', and not every record keeps it
unfoldable pub asks : Background → List Entry → ℕ → Bool
asks b d j = not (eqb (nth d j).kind 5) && not (supports b end (atom_of (nth d j)))

-- entry k of C says entry j of D by itself
unfoldable pub teller : Background → List Entry → List Entry → ℕ → ℕ → Bool
teller b c d j k = not (eqb (nth c k).kind 5) && tells b (links_to c k) (atom_of (nth c k)) (links_to d j) (atom_of (nth d j))

-- from the last entry of C to the first, each that is the first to say an entry of D which none that is taken says
unfoldable pub speakers : Background → List Entry → List Entry → ℕ → Bool
speakers b c d = taken (wanted (asks b d) (teller b c d) (length c) (length d)) (length c) (λ k. false)
