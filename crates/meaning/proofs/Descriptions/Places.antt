-- What the entries of a place ask, one by one: the place that an owner's rows make, and the place of a legal description.
-- Assumes nothing.
use Prim.Native.Nat.{◌+◌, ◌<◌, ◌≤◌, suc, ℕ}
use lib.Dec.{eqb}
use lib.ListN.{get_or, length}
use mathlib.Core.Bool.{Bool, ◌&&◌, ◌||◌, cond, false, not, true}
use mathlib.Core.List.{List, [], ◌∷◌, map}
use mathlib.Core.Path.{◌∙◌, ◌≡◌, refl, sym}
use native.Mathlib.Omega.{arith}
use Rattle.base.proofs.Tests.{bool_cases, eqb-sym, tests}
use Rattle.blocks.proofs.Refusing.Legal.{owner-earlier}
use Rattle.blocks.specs.Entries.{nth, zero_entry}
use Rattle.blocks.specs.Owners.{owner_of}
use Rattle.blocks.specs.Promise.{Legal}
use Rattle.blocks.specs.declared.Entry.{Entry}
use Rattle.blocks.specs.declared.Schema.{Schema}
use Rattle.logic.proofs.Records.Counting.{every-from-ext, every_map, every_from}
use Rattle.logic.specs.Place.{Atom, Place}
use Rattle.logic.specs.Tree.{Early, Row, Tree, end, leaf, leaf_row, node, node_row, row_owner, tree}
use Rattle.meaning.proofs.Descriptions.OwnedLaws.{owned-from}
use Rattle.meaning.specs.Description.{atom_of, place_of, row_of}
use Rattle.meaning.specs.Owned.{all_owned}

-- ---- rows

module _ {A B : Type 0} (f : A → Bool) (g : B → Tree A B → Bool) where
  -- each entry of a place passes: f of one that owns nothing, g of one with what it owns
  unfoldable pub all_here : Tree A B → Bool
  all_here end = true
  all_here (leaf a r) = f a && all_here r
  all_here (node b t r) = g b t && all_here r

  -- row n passes, where `whole n` is what it owns
  abbrev row_passes : (ℕ → Tree A B) → ℕ → Row A B → Bool
  row_passes whole n (leaf_row o a) = f a
  row_passes whole n (node_row o b) = g b (whole n)

-- what an entry owns stands in the rows after it
pub tree-skip : {A B : Type 0} (r : Row A B) (k : ℕ) (rs : List (Row A B)) (o : ℕ) → row_owner r < k → k ≤ o → tree (suc k) rs o ≡ tree k (r ∷ rs) o
unfolding tree
tree-skip (leaf_row o' a) k rs o h l = let z : eqb o o' ≡ false = omega tests in rw z
tree-skip (node_row o' b) k rs o h l = let z : eqb o o' ≡ false = omega tests in rw z

module _ {A B : Type 0} (f : A → Bool) (g : B → Tree A B → Bool) (whole : ℕ → Tree A B) (o : ℕ) where
  -- the entries of o pass if each row of o does
  here-rows : (k : ℕ) (rs : List (Row A B)) → Early k rs → ((n : ℕ) → k ≤ n → tree k rs n ≡ whole n)
      → all_here f g (tree k rs o) ≡ every_from (λ n r. not (eqb (row_owner r) o) || row_passes f g whole n r) k rs
  unfolding tree all_here every_from
  here-rows k [] h w = refl
  here-rows k (leaf_row o' a ∷ rs) h w =
      let ih = here-rows (suc k) rs h.1 (λ n l. tree-skip (leaf_row o' a) k rs n h.0 (omega arith) ∙ w n (omega arith)) in
      rw (eqb-sym o' o, ← ih) (bool_cases (eqb o o') (λ z. rw z) (λ z. rw z))
  here-rows k (node_row o' b ∷ rs) h w =
      let ih = here-rows (suc k) rs h.1 (λ n l. tree-skip (node_row o' b) k rs n h.0 (omega arith) ∙ w n (omega arith)) in
      let own : tree (suc k) rs k ≡ whole k = tree-skip (node_row o' b) k rs k h.0 (omega arith) ∙ w k (omega arith) in
      rw (eqb-sym o' o, ← ih, ← own) (bool_cases (eqb o o') (λ z. rw z) (λ z. rw z))

-- ---- descriptions

-- entry n, which is e, passes: f of what it says, or g of its link and of the place it owns
abbrev pub asks : (Atom → Bool) → (ℕ → Place → Bool) → List Entry → ℕ → Entry → Bool
asks f g d n e = cond (eqb e.kind 5) (g e.name (place_of d n)) (f (atom_of e))

-- the row of an entry has its owner
row-owner : (e : Entry) → row_owner (row_of e) ≡ e.owner
unfolding row_of
row-owner e = bool_cases (eqb e.kind 5) (λ q. rw q) (λ q. rw q)

-- the row of an entry passes if the entry does
row-asks : (f : Atom → Bool) (g : ℕ → Place → Bool) (d : List Entry) (n : ℕ) (e : Entry)
    → row_passes f g (place_of d) n (row_of e) ≡ asks f g d n e
unfolding row_of
row-asks f g d n e = bool_cases (eqb e.kind 5) (λ q. rw q) (λ q. rw q)

-- rows stand after their owners if the entries do
pub early-rows : (k : ℕ) (es : List Entry) → ((i : ℕ) → i < length es → (get_or es i zero_entry).owner < k + i) → Early k (map row_of es)
early-rows k [] h = tt
early-rows k (e ∷ es) h =
    (rw (row-owner e) (let z = h 0 (omega arith) in omega arith), early-rows (suc k) es (λ i l. let z = h (suc i) (omega arith) in omega arith))

-- the entries of the place that o owns pass if each entry of owner o does
pub place-owned : {σ : Schema} (d : List Entry) → Legal σ d → (f : Atom → Bool) (g : ℕ → Place → Bool) (o : ℕ)
    → all_here f g (place_of d o) ≡ all_owned (λ n. asks f g d n (nth d n)) d o (length d)
unfolding place_of
place-owned d L f g o =
    let early = early-rows 1 d (λ i l. let z = owner-earlier L (suc i) (omega arith) (omega arith) in unfold owner_of nth in omega arith) in
    here-rows f g (place_of d) o 1 (map row_of d) early (λ n l. refl)
    ∙ every_map row_of (λ n r. not (eqb (row_owner r) o) || row_passes f g (place_of d) n r) 1 d
    ∙ every-from-ext _ _ 1 d (λ n e. rw (row-owner e, row-asks f g d n e))
    ∙ sym (owned-from (asks f g d) d o)
