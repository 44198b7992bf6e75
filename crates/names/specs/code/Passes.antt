-- Unfolding in steps: names that stand for nothing go first. A description names only earlier ones, so that what is put in for a name has
-- lesser names.
-- Assumes nothing.
use Rattle.std.specs.Prelude.{◌≤◌, ℕ, eqb, length, cond, true, List, [], ◌∷◌, ◌≡◌}
use Rattle.blocks.specs.Entries.{entry, is_named, nth}
use Rattle.blocks.specs.declared.Entry.{Entry}
use Rattle.names.specs.Measures.{size_nth}
use Rattle.names.specs.Promise.{FormsOk, OwnersOk}
use Rattle.names.specs.Unfold.{contents, described, unfolded, unfolded_by}

-- ---- names replaced

-- a name that is left as it is
abbrev pub name_again : ℕ → List Entry
name_again n = entry 9 0 n 0 ∷ []

-- S gives, for each name, entries that stand for the same
pub record StandsFor (K : List (List Entry)) (S : ℕ → List Entry) : Type 0 where
  pub form : (n : ℕ) → FormsOk (S n)
  pub owner : (n : ℕ) → OwnersOk (S n)
  pub same : (n : ℕ) → unfolded_by K (S n) ≡ contents K n

-- ---- steps

-- names that stand for no entries, by S, go; the others stay
unfoldable pub kept_by : (ℕ → ℕ) → ℕ → List Entry
kept_by S x = cond (eqb (S x) 0) [] (name_again x)

abbrev pub emptied : List (List Entry) → ℕ → List Entry
emptied K = kept_by (size_nth K)

-- what is read for name n: the entries of its description, without names that stand for nothing
abbrev pub inside : List (List Entry) → ℕ → List Entry
inside K n = unfolded (emptied K) (described K n)

-- an entry that is no name, or a name up to r that stands for something
abbrev pub Left : List (List Entry) → ℕ → Entry → Type 0
Left K r e = is_named e ≡ true → (1 ≤ size_nth K e.name) × (e.name ≤ r)

-- where unfolding stands between steps: the entries stand for `whole`, and names up to r are left
pub record Stage (K : List (List Entry)) (whole : List Entry) (r : ℕ) (es : List Entry) : Type 0 where
  pub form : FormsOk es
  pub owner : OwnersOk es
  pub left : (n : ℕ) → 1 ≤ n → n ≤ length es → Left K r (nth es n)
  pub same : unfolded_by K es ≡ whole
