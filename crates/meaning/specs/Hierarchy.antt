-- A table of which services are contained in which, and what is read off it. Services count from 0 here.
-- Assumes nothing.
use Rattle.std.specs.Prelude.{◌≡◌, ℕ, zero, suc, ◌-◌, ◌<◌, Bool, true, false, not, ◌&&◌, ◌||◌, eqb, List}
use Rattle.base.specs.Search.{first_from}
use Rattle.blocks.specs.declared.Entry.{Entry}
use Rattle.logic.specs.Background.{Background}
use Rattle.meaning.specs.Failing.{failing}

-- service i is contained in service j: no entry of j fails
abbrev pub within : Background → (ℕ → List Entry) → ℕ → ℕ → Bool
within b service i j = eqb (failing b (service i) (service j)) 0

-- one of the numbers below n passes
unfoldable pub some_below : (ℕ → Bool) → ℕ → Bool
some_below p zero = false
some_below p (suc n) = p n || some_below p n

-- j strictly contains i: i is contained in j, and not the other way
abbrev pub strict : (ℕ → ℕ → Bool) → ℕ → ℕ → Bool
strict t i j = t i j && not (t j i)

-- k stands strictly between i and j
abbrev pub between : (ℕ → ℕ → Bool) → ℕ → ℕ → ℕ → Bool
between t i j k = strict t i k && strict t k j

-- [H3] j is a direct superior of i, among n: it strictly contains i, and no third stands strictly between
abbrev pub direct : (ℕ → ℕ → Bool) → ℕ → ℕ → ℕ → Bool
direct t n i j = strict t i j && not (some_below (between t i j) n)

-- services that contain each other form one class
abbrev pub alike : (ℕ → ℕ → Bool) → ℕ → ℕ → Bool
alike t i j = t i j && t j i

-- [H5] the class of i among n, shown by its lowest position, counted from 1: position k is service k - 1
unfoldable pub class_of : (ℕ → ℕ → Bool) → ℕ → ℕ → ℕ
class_of t n i = first_from (λ k. not (alike t i (k - 1))) 1 n

-- a table of n services in which each is contained in itself, and what contains a container contains what is in it
pub record Ordered (t : ℕ → ℕ → Bool) (n : ℕ) : Type 0 where
  pub itself : (i : ℕ) → i < n → t i i ≡ true
  pub through : (i j k : ℕ) → i < n → j < n → k < n → t i j ≡ true → t j k ≡ true → t i k ≡ true

-- [H4] from i one comes to j by following direct superiors
pub data Leads (t : ℕ → ℕ → Bool) (n : ℕ) : ℕ → ℕ → Type 0 where
  last : (i j : ℕ) → direct t n i j ≡ true → Leads t n i j
  on : (i k j : ℕ) → k < n → direct t n i k ≡ true → Leads t n k j → Leads t n i j
