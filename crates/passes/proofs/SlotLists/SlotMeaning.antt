-- What the slots ask of the items at a place, and what one entry more adds to it.
-- Assumes nothing.
use Prim.Native.Nat.{◌+◌, ◌<◌, suc, ℕ}
use lib.Dec.{eqb}
use lib.ListN.{length}
use mathlib.Core.Bool.{Bool, ◌&&◌, ◌||◌, and-true, false, not, true}
use mathlib.Core.List.{List, [], ◌∷◌}
use mathlib.Core.Option.{Option, none}
use mathlib.Core.Path.{◌∙◌, ◌≡◌, ap, fun_ext, refl, sym}
use native.Mathlib.Omega.{arith}
use Rattle.base.proofs.Tests.{and-swap, and_zero, bool_cases, eqb-self, tests}
use Rattle.logic.specs.Record.{Record, each_linked}
use Rattle.passes.proofs.SlotLists.SlotBounds.{below-ext, below_true, each_below, inside, inside_both, inside-free, linked-and}
use Rattle.passes.proofs.SlotLists.SlotLaws.{key-name, key-place, name-class, name-eq, position_from}
use Rattle.passes.specs.code.Slots.{EarlySlots, Slot, position, same_key, slot, tighten}

-- g is asked of the place u besides what ρ asks of each place
abbrev pub besides : ℕ → (ℕ → Bool) → (ℕ → ℕ → Bool) → ℕ → ℕ → Bool
besides u g ρ v x = (not (eqb v u) || g x) && ρ v x

-- what a slot asks is split over two of its parts
split-first : (a p q e s : Bool) → ((a || ((p && q) && e)) && s) ≡ ((a || (p && e)) && ((a || q) && s))
split-first true p q e s = refl
split-first false true true e s = refl
split-first false true false e s = sym (and_zero e)
split-first false false q e s = refl

split-second : (a p g e s : Bool) → ((a || (p && (g && e))) && s) ≡ ((a || (p && e)) && ((a || g) && s))
split-second true p g e s = refl
split-second false true true e s = refl
split-second false true false e s = sym (and_zero e)
split-second false false g e s = refl

module _ (c : Record) where
  -- the slots that count from k, and ρ besides, ask this of an item x at the place v
  unfoldable pub asks : ℕ → List Slot → (ℕ → ℕ → Bool) → ℕ → ℕ → Bool
  asks k [] ρ v x = ρ v x
  asks k (slot u b n lo hi ∷ ss) ρ v x =
      (not (eqb v u) || (inside c b n lo hi x && each_below c b n x (λ y. asks (suc k) ss ρ k y))) && asks (suc k) ss ρ v x

  pub asks-ext : (k : ℕ) (ss : List Slot) (ρ ρ' : ℕ → ℕ → Bool) (v x : ℕ) → ((v x : ℕ) → ρ v x ≡ ρ' v x) → asks k ss ρ v x ≡ asks k ss ρ' v x
  asks-ext k ss ρ ρ' v x h = ap (λ (r : ℕ → ℕ → Bool). asks k ss r v x) (fun_ext (λ v. fun_ext (λ x. h v x)))

  -- what is asked besides of an earlier place stays with it
  asks-besides : (k : ℕ) (ss : List Slot) (u : ℕ) (g : ℕ → Bool) (ρ : ℕ → ℕ → Bool) (v x : ℕ) → u < k → EarlySlots k ss
      → asks k ss (besides u g ρ) v x ≡ (not (eqb v u) || g x) && asks k ss ρ v x
  unfolding asks
  asks-besides k [] u g ρ v x h e = refl
  asks-besides k (slot u' b n lo hi ∷ ss) u g ρ v x h e =
      let z : eqb k u ≡ false = omega tests in
      let i : each_below c b n x (λ y. asks (suc k) ss (besides u g ρ) k y) ≡ each_below c b n x (λ y. asks (suc k) ss ρ k y)
      = below-ext c b n x _ _ (λ y. asks-besides (suc k) ss u g ρ k y (omega arith) e.1 ∙ rw z) in
      let j : asks (suc k) ss (besides u g ρ) v x ≡ (not (eqb v u) || g x) && asks (suc k) ss ρ v x
      = asks-besides (suc k) ss u g ρ v x (omega arith) e.1 in
      rw (i, j) (and-swap (not (eqb v u') || (inside c b n lo hi x && each_below c b n x (λ y. asks (suc k) ss ρ k y))) (not (eqb v u) || g x) (asks (suc k) ss ρ v x))

  -- what is asked besides of a place before a slot changes nothing below the slot
  below-besides : (k : ℕ) (ss : List Slot) (u : ℕ) (g : ℕ → Bool) (ρ : ℕ → ℕ → Bool) (b : Bool) (n x : ℕ) → u < k → EarlySlots (suc k) ss
      → each_below c b n x (λ y. asks (suc k) ss (besides u g ρ) k y) ≡ each_below c b n x (λ y. asks (suc k) ss ρ k y)
  below-besides k ss u g ρ b n x h e =
      let z : eqb k u ≡ false = omega tests in
      below-ext c b n x _ _ (λ y. asks-besides (suc k) ss u g ρ k y (omega arith) e ∙ rw z)

  -- an entry that owns nothing: what it says is asked of its place, where nothing is asked yet of the place w below a new slot
  pub tighten-asks : (k : ℕ) (ss : List Slot) (u : ℕ) (b : Bool) (n lo : ℕ) (hi : Option ℕ) (ρ : ℕ → ℕ → Bool) (v x w : ℕ)
      → EarlySlots k ss → w ≡ k + length ss → ((y : ℕ) → ρ w y ≡ true)
      → asks k (tighten ss u b n lo hi) ρ v x ≡ asks k ss (besides u (λ x. inside c b n lo hi x) ρ) v x
  unfolding asks tighten
  tighten-asks k [] u b n lo hi ρ v x w e i f =
      let j : w ≡ k = omega arith in
      rw (below_true c b n x (λ y. ρ k y) (λ y. rw j at (f y)), and-true (inside c b n lo hi x))
  tighten-asks k (slot u' b' n' lo' hi' ∷ ss) u b n lo hi ρ v x w e i f =
      let g : ℕ → Bool = λ x. inside c b n lo hi x in
      bool_cases (same_key u' b' n' u b n)
      (λ q.
      let iu : u' ≡ u = key-place u' b' n' u b n q in
      let ib : b' ≡ b = name-class b' n' b n (key-name u' b' n' u b n q) in
      let in' : n' ≡ n = name-eq b' n' b n (key-name u' b' n' u b n q) in
      let h : u' < k = e.0 in
      let h' : u < k = omega arith in
      let t : each_below c b n x (λ y. asks (suc k) ss (besides u g ρ) k y) ≡ each_below c b n x (λ y. asks (suc k) ss ρ k y)
      = below-besides k ss u g ρ b n x h' e.1 in
      let j : asks (suc k) ss (besides u g ρ) v x ≡ (not (eqb v u) || g x) && asks (suc k) ss ρ v x
      = asks-besides (suc k) ss u g ρ v x (omega arith) e.1 in
      rw (q, iu, ib, in', t, j, inside_both c b n lo' lo hi' hi x)
      (split-first (not (eqb v u)) (inside c b n lo' hi' x) (inside c b n lo hi x) (each_below c b n x (λ y. asks (suc k) ss ρ k y)) (asks (suc k) ss ρ v x)))
      (λ q.
      let t : each_below c b' n' x (λ y. asks (suc k) (tighten ss u b n lo hi) ρ k y) ≡ each_below c b' n' x (λ y. asks (suc k) ss (besides u g ρ) k y)
      = below-ext c b' n' x _ _ (λ y. tighten-asks (suc k) ss u b n lo hi ρ k y w e.1 (omega arith) f) in
      rw (q, t, tighten-asks (suc k) ss u b n lo hi ρ v x w e.1 (omega arith) f))

  -- an 'every': what it owns, G, is asked of the place below its slot
  pub every-asks : (k : ℕ) (ss : List Slot) (u l : ℕ) (ρ : ℕ → ℕ → Bool) (G : ℕ → Bool) (v x w : ℕ) → EarlySlots k ss → w ≡ k + length ss
      → ((y : ℕ) → ρ w y ≡ true) → eqb v (position k ss u true l) ≡ false
      → asks k (tighten ss u true l 0 none) (besides (position k ss u true l) G ρ) v x ≡ asks k ss (besides u (λ x. each_linked c l x G) ρ) v x
  unfolding asks tighten position
  every-asks k [] u l ρ G v x w e i f d =
      let j : w ≡ k = omega arith in
      let t : each_below c true l x (λ y. besides k G ρ k y) ≡ each_below c true l x G
      = below-ext c true l x (λ y. besides k G ρ k y) G (λ y. let z : ρ k y ≡ true = rw j at (f y) in rw (eqb-self k, z) (and-true (G y))) in
      rw (t, inside-free c true l x, d)
  every-asks k (slot u' b' n' lo' hi' ∷ ss) u l ρ G v x w e i f d =
      let g : ℕ → Bool = λ x. each_linked c l x G in
      bool_cases (same_key u' b' n' u true l)
      (λ q.
      let iu : u' ≡ u = key-place u' b' n' u true l q in
      let ib : b' ≡ true = name-class b' n' true l (key-name u' b' n' u true l q) in
      let in' : n' ≡ l = name-eq b' n' true l (key-name u' b' n' u true l q) in
      let h : u' < k = e.0 in
      let h' : u < k = omega arith in
      let d' : eqb v k ≡ false = rw q at d in
      let s : ℕ → Bool = λ y. asks (suc k) ss ρ k y in
      let t : each_below c true l x (λ y. asks (suc k) ss (besides u g ρ) k y) ≡ each_below c true l x s = below-besides k ss u g ρ true l x h' e.1 in
      let j : asks (suc k) ss (besides u g ρ) v x ≡ (not (eqb v u) || g x) && asks (suc k) ss ρ v x
      = asks-besides (suc k) ss u g ρ v x (omega arith) e.1 in
      let t' : each_below c true l x (λ y. asks (suc k) ss (besides k G ρ) k y) ≡ each_linked c l x G && each_linked c l x s
      = below-ext c true l x _ (λ y. G y && s y) (λ y. asks-besides (suc k) ss k G ρ k y (omega arith) e.1 ∙ rw (eqb-self k)) ∙ linked-and c l x G s in
      let j' : asks (suc k) ss (besides k G ρ) v x ≡ asks (suc k) ss ρ v x = asks-besides (suc k) ss k G ρ v x (omega arith) e.1 ∙ rw d' in
      rw (q, iu, ib, in', t, j, t', j', inside_both c true l lo' 0 hi' none x, inside-free c true l x, and-true (inside c true l lo' hi' x))
      (split-second (not (eqb v u)) (inside c true l lo' hi' x) (each_linked c l x G) (each_linked c l x s) (asks (suc k) ss ρ v x)))
      (λ q.
      let sp : ℕ = position (suc k) ss u true l in
      let d' : eqb v sp ≡ false = rw q at d in
      let dk : eqb k sp ≡ false = omega (tests, position_from (suc k) ss u true l) in
      let t : each_below c b' n' x (λ y. asks (suc k) (tighten ss u true l 0 none) (besides sp G ρ) k y) ≡ each_below c b' n' x (λ y. asks (suc k) ss (besides u g ρ) k y)
      = below-ext c b' n' x _ _ (λ y. every-asks (suc k) ss u l ρ G k y w e.1 (omega arith) f dk) in
      rw (q, t, every-asks (suc k) ss u l ρ G v x w e.1 (omega arith) f d'))
