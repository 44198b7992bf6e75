-- Entries left out of a description, one after the other, from the last to the first.
-- Assumes nothing.
use Rattle.std.specs.Prelude.{◌+◌, suc, zero, ℕ, eqb, leb, length, ltb, Bool, ◌&&◌, ◌||◌, cond, false, not, List, [], ◌∷◌}
use Rattle.base.specs.Range.{bit}
use Rattle.blocks.specs.Owners.{owner_of}
use Rattle.blocks.specs.declared.Entry.{Entry}

-- a set of entry numbers without n
abbrev pub without : ℕ → (ℕ → Bool) → ℕ → Bool
without n K k = K k && not (eqb k n)

-- of the entries 1 to n, from the last to the first, each is left out if what is left still passes
unfoldable pub keep_from : ((ℕ → Bool) → Bool) → ℕ → (ℕ → Bool) → ℕ → Bool
keep_from P zero K = K
keep_from P (suc n) K = keep_from P n (cond (P (without (suc n) K)) (without (suc n) K) K)

-- an entry that says nothing and is owned as e is: at least 0 of link 1
abbrev pub neutral : Entry → Entry
neutral e = record { kind = 3; reserved = 0; owner = e.owner; name = 1; number = 0 }

-- the entries, which count from k, with such entries in place of those that are not kept; an 'every' stays
unfoldable pub thinned : (ℕ → Bool) → ℕ → List Entry → List Entry
thinned K k [] = []
thinned K k (e ∷ es) = cond (eqb e.kind 5 || K k) e (neutral e) ∷ thinned K (suc k) es

-- how many of the numbers 1 to n are marked
unfoldable pub rank : (ℕ → Bool) → ℕ → ℕ
rank M zero = 0
rank M (suc n) = bit (M (suc n)) + rank M n

-- an entry, where only marked entries are left and count anew
abbrev pub moved : (ℕ → Bool) → Entry → Entry
moved M e = record { kind = e.kind; reserved = e.reserved; owner = rank M e.owner; name = e.name; number = e.number }

-- the marked entries alone, where k entries stand before these
unfoldable pub cut : (ℕ → Bool) → ℕ → List Entry → List Entry
cut M k [] = []
cut M k (e ∷ es) = cond (M (suc k)) (moved M e ∷ cut M (suc k) es) (cut M (suc k) es)

-- entry n is among the owners of entry k, which are followed for at most so many steps
unfoldable pub above : List Entry → ℕ → ℕ → ℕ → Bool
above es zero n k = false
above es (suc f) n k = cond (eqb (owner_of es k) 0) false (eqb (owner_of es k) n || above es f n (owner_of es k))

-- some of the entries 1 to m is kept, and has n among its owners
unfoldable pub owns_kept : (ℕ → Bool) → List Entry → ℕ → ℕ → Bool
owns_kept K es n zero = false
owns_kept K es n (suc m) = (K (suc m) && above es (suc m) n (suc m)) || owns_kept K es n m

-- a set with all the owners of its members
abbrev pub marked : (ℕ → Bool) → List Entry → ℕ → Bool
marked K es n = K n || owns_kept K es n (length es)

-- a set without the numbers after a, up to n
abbrev pub without_run : ℕ → ℕ → (ℕ → Bool) → ℕ → Bool
without_run a n K k = K k && not (ltb a k && leb k n)
