-- The first pass: the slots of a description ask of the top what the description asks.
-- Assumes nothing.
use Prim.Native.Nat.{◌+◌, ◌<◌, ◌≤◌, suc, ℕ}
use lib.Dec.{eqb}
use lib.ListN.{length}
use mathlib.Core.Bool.{Bool, ◌&&◌, ◌||◌, and-true, false, or-false, true}
use mathlib.Core.List.{List, [], ◌∷◌}
use mathlib.Core.Option.{Option, none, some}
use mathlib.Core.Path.{◌∙◌, ◌≡◌, ap, fun_ext, refl, sym}
use native.Mathlib.Omega.{arith}
use Rattle.base.proofs.Missing.{opt_cases}
use Rattle.base.proofs.Tests.{and_zero, bool_cases, eqb-eq, eqb-self, tests}
use Rattle.logic.proofs.TreeRows.MergedRows.{merged, merged-none, merged-or, merged-tree}
use Rattle.logic.specs.Place.{Atom, Kind, Place, atom}
use Rattle.logic.specs.Record.{Record, each_linked, fits}
use Rattle.logic.specs.Tree.{Row, leaf_row, node_row, row_owner, tree}
use Rattle.passes.proofs.SlotLists.SlotBounds.{inside, inside-atom}
use Rattle.passes.proofs.SlotLists.SlotLaws.{Bounded, bounded-leading, bounded-tighten, bounded-top, position-below, position_from, tighten-early}
use Rattle.passes.proofs.SlotLists.SlotMeaning.{asks, asks-ext, besides, every-asks, tighten-asks}
use Rattle.passes.specs.code.Slots.{EarlySlots, Slot, at_top, build, high, is_link, leading, low, position, slots, tighten}

-- an owner that leads to the place v
abbrev is_at : ℕ → Option ℕ → Bool
is_at v none = false
is_at v (some u) = eqb v u

-- no entry from number k on leads anywhere yet
abbrev Unseen : (ℕ → Option ℕ) → ℕ → Type 0
Unseen ν k = (j : ℕ) → k ≤ j → ν j ≡ none

unseen-leading : (ν : ℕ → Option ℕ) (k w : ℕ) → Unseen ν k → Unseen (leading ν k w) (suc k)
unseen-leading ν k w h j i = let z : eqb k j ≡ false = omega tests in rw z (h j (omega arith))

unseen-suc : (ν : ℕ → Option ℕ) (k : ℕ) → Unseen ν k → Unseen ν (suc k)
unseen-suc ν k h j i = h j (omega arith)

-- the owners that lead to v, where entry k now leads to w
leading_at_lem : (ν : ℕ → Option ℕ) (k w v : ℕ) → ν k ≡ none → (j : ℕ) → is_at v (leading ν k w j) ≡ ((eqb k j && eqb v w) || is_at v (ν j))
leading_at_lem ν k w v h j =
    bool_cases (eqb k j)
    (λ q. let i : k ≡ j = eqb-eq q in let z : ν j ≡ none = rw i at h in rw (q, z) (sym (or-false (eqb v w))))
    (λ q. rw q)

module _ (c : Record) where
  -- what the rows from number k on ask of an item at the place v
  abbrev rest : (ℕ → Option ℕ) → ℕ → List (Row Atom ℕ) → ℕ → ℕ → Bool
  rest ν k rs v x = fits c (merged k rs (λ j. is_at v (ν j))) x

  -- what entry k owns
  abbrev owned : ℕ → List (Row Atom ℕ) → ℕ → Bool
  owned k rs y = fits c (merged (suc k) rs (λ j. eqb k j)) y

  rest-fresh : (ν : ℕ → Option ℕ) (ss : List Slot) (k : ℕ) (rs : List (Row Atom ℕ)) → Bounded ν ss → (y : ℕ) → rest ν k rs (1 + length ss) y ≡ true
  rest-fresh ν ss k rs h y =
      merged-none c k rs (λ j. is_at (1 + length ss) (ν j)) y
      (λ j. opt_cases (ν j)
      (λ q. rw q)
      (λ v q. let i : v < 1 + length ss = h j v q in let z : eqb (1 + length ss) v ≡ false = omega tests in rw q z))

  rest-leaf : (ν : ℕ → Option ℕ) (k : ℕ) (rs : List (Row Atom ℕ)) (o : ℕ) (a : Kind) (n m u : ℕ) → ν o ≡ some u → (v x : ℕ)
      → besides u (λ x. inside c (is_link a) n (low a m) (high a m) x) (rest ν (suc k) rs) v x ≡ rest ν k (leaf_row o (atom a n m) ∷ rs) v x
  unfolding merged fits
  rest-leaf ν k rs o a n m u e v x = rw (inside-atom c a n m x, e) (bool_cases (eqb v u) (λ q. rw q) (λ q. rw q))

  rest-node : (ν : ℕ → Option ℕ) (k : ℕ) (rs : List (Row Atom ℕ)) (o l u : ℕ) → ν o ≡ some u → (v x : ℕ)
      → besides u (λ x. each_linked c l x (λ y. owned k rs y)) (rest ν (suc k) rs) v x ≡ rest ν k (node_row o l ∷ rs) v x
  unfolding merged fits
  rest-node ν k rs o l u e v x = rw e (bool_cases (eqb v u) (λ q. rw q) (λ q. rw q))

  rest-nowhere : (ν : ℕ → Option ℕ) (k : ℕ) (rs : List (Row Atom ℕ)) (r : Row Atom ℕ) → ν (row_owner r) ≡ none → (v x : ℕ)
      → rest ν (suc k) rs v x ≡ rest ν k (r ∷ rs) v x
  unfolding merged fits
  rest-nowhere ν k rs (leaf_row o a) e v x = rw e
  rest-nowhere ν k rs (node_row o l) e v x = rw e

  -- a new owner of the place w
  rest-leading : (ν : ℕ → Option ℕ) (k : ℕ) (rs : List (Row Atom ℕ)) (w : ℕ) → ν k ≡ none → (v x : ℕ)
      → rest (leading ν k w) (suc k) rs v x ≡ besides w (λ y. owned k rs y) (rest ν (suc k) rs) v x
  rest-leading ν k rs w h v x =
      ap (λ (p : ℕ → Bool). fits c (merged (suc k) rs p) x) (fun_ext (λ j. leading_at_lem ν k w v h j))
      ∙ merged-or c (suc k) rs (λ j. eqb k j && eqb v w) (λ j. is_at v (ν j)) x
      ∙ bool_cases (eqb v w)
      (λ q. rw q (ap (λ (p : ℕ → Bool). fits c (merged (suc k) rs p) x && rest ν (suc k) rs v x) (fun_ext (λ j. and-true (eqb k j)))))
      (λ q. rw (q, merged-none c (suc k) rs (λ j. eqb k j && false) x (λ j. and_zero (eqb k j))))

  -- the slots in the making ask, with the rows still to come, what they ask in the end
  build-sound : (ν : ℕ → Option ℕ) (ss : List Slot) (k : ℕ) (rs : List (Row Atom ℕ)) (x : ℕ) → EarlySlots 1 ss → Bounded ν ss → Unseen ν k
      → asks c 1 (build ν ss k rs) (λ v x. true) 0 x ≡ asks c 1 ss (rest ν k rs) 0 x
  unfolding build
  build-sound ν ss k [] x e h a = unfold merged fits in refl
  build-sound ν ss k (leaf_row o (atom d n m) ∷ rs) x e h a =
      let r : Row Atom ℕ = leaf_row o (atom d n m) in
      opt_cases (ν o)
      (λ q. rw q (build-sound ν ss (suc k) rs x e h (unseen-suc ν k a) ∙ asks-ext c 1 ss (rest ν (suc k) rs) (rest ν k (r ∷ rs)) 0 x (λ v y. rest-nowhere ν k rs r q v y)))
      (λ u q.
      let ss' : List Slot = tighten ss u (is_link d) n (low d m) (high d m) in
      let e' : EarlySlots 1 ss' = tighten-early u (is_link d) n (low d m) (high d m) 1 ss e (h o u q) in
      let g : ℕ → Bool = λ x. inside c (is_link d) n (low d m) (high d m) x in
      rw q (build-sound ν ss' (suc k) rs x e' (bounded-tighten ν ss u (is_link d) n (low d m) (high d m) h) (unseen-suc ν k a)
      ∙ tighten-asks c 1 ss u (is_link d) n (low d m) (high d m) (rest ν (suc k) rs) 0 x (1 + length ss) e refl (rest-fresh ν ss (suc k) rs h)
      ∙ asks-ext c 1 ss (besides u g (rest ν (suc k) rs)) (rest ν k (r ∷ rs)) 0 x (λ v y. rest-leaf ν k rs o d n m u q v y)))
  build-sound ν ss k (node_row o l ∷ rs) x e h a =
      let r : Row Atom ℕ = node_row o l in
      opt_cases (ν o)
      (λ q. rw q (build-sound ν ss (suc k) rs x e h (unseen-suc ν k a) ∙ asks-ext c 1 ss (rest ν (suc k) rs) (rest ν k (r ∷ rs)) 0 x (λ v y. rest-nowhere ν k rs r q v y)))
      (λ u q.
      let ss' : List Slot = tighten ss u true l 0 none in
      let w : ℕ = position 1 ss u true l in
      let G : ℕ → Bool = λ y. owned k rs y in
      let e' : EarlySlots 1 ss' = tighten-early u true l 0 none 1 ss e (h o u q) in
      let z : eqb 0 w ≡ false = omega (tests, position_from 1 ss u true l) in
      let h' : Bounded (leading ν k w) ss' = bounded-leading ν ss' k w (position-below u true l 0 none 1 ss) (bounded-tighten ν ss u true l 0 none h) in
      rw q (build-sound (leading ν k w) ss' (suc k) rs x e' h' (unseen-leading ν k w a)
      ∙ asks-ext c 1 ss' (rest (leading ν k w) (suc k) rs) (besides w G (rest ν (suc k) rs)) 0 x (λ v y. rest-leading ν k rs w (a k (omega arith)) v y)
      ∙ every-asks c 1 ss u l (rest ν (suc k) rs) G 0 x (1 + length ss) e refl (rest-fresh ν ss (suc k) rs h) z
      ∙ asks-ext c 1 ss (besides u (λ x. each_linked c l x G) (rest ν (suc k) rs)) (rest ν k (r ∷ rs)) 0 x (λ v y. rest-node ν k rs o l u q v y)))

  -- the slots of a description ask of the top what the description does
  pub slots-sound : (rs : List (Row Atom ℕ)) (x : ℕ) → asks c 1 (slots rs) (λ v x. true) 0 x ≡ fits c (tree 1 rs 0) x
  unfolding slots asks
  slots-sound rs x =
      build-sound at_top [] 1 rs x tt bounded-top (λ j i. let z : eqb 0 j ≡ false = omega tests in rw z)
      ∙ ap (λ (p : ℕ → Bool). fits c (merged 1 rs p) x) (fun_ext (λ j. bool_cases (eqb 0 j) (λ q. rw (q, eqb-self 0)) (λ q. rw q)))
      ∙ ap (λ (t : Place). fits c t x) (merged-tree 1 rs 0)
