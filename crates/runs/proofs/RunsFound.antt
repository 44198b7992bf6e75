-- What a walk along the chains finds: the tags of all slots of a run that say enough, and the slot of a name.
-- Assumes nothing.
use Prim.Native.Nat.{◌*◌, ◌+◌, ◌-◌, ◌<◌, ◌≤◌, suc, zero, ℕ}
use lib.Dec.{eqb, leb}
use lib.ListN.{get_or, length}
use mathlib.Core.Bool.{cond, false, true}
use mathlib.Core.List.{List, [], ◌++◌, ◌∷◌}
use mathlib.Core.Logic.{◌≢◌}
use mathlib.Core.Path.{◌∙◌, ◌≡◌, ap, refl, sym}
use native.Mathlib.Omega.{arith}
use Rattle.base.proofs.ChainLaws.{last-other, skip-goes, skip-starts, walk-falls, walk-goes, walk-starts}
use Rattle.base.proofs.Tests.{bool_cases, eq-cases, eq-eqb, eqb-eq, eqb-ne, le-leb, lt-ltb, ne_eqb, tests}
use Rattle.base.specs.Chain.{OnChain, last_where}
use Rattle.runs.proofs.AlongChains.{chain-ends, chain-goes}
use Rattle.runs.specs.code.Chained.{RunChains, run_at, slot_name}
use Rattle.runs.specs.code.Tagged.{tags_down}
use Rattle.runs.specs.code.Walked.{chain_from, chain_start, first_named, gathered, named, tag_if, tags_along}
use Rattle.slots.specs.code.Tables.{key_in, low_part}

-- ---- one slot more

-- a slot of the run
tags-here : (t : List ℕ) (r low i : ℕ) → run_at t (suc i) ≡ r → tags_down t r low (suc i) ≡ tag_if low (get_or t (suc i) 0) (suc i) ++ tags_down t r low i
unfolding tags_down tag_if
tags-here t r low i e = bool_cases (leb low (low_part (get_or t (suc i) 0))) (λ q. rw (eq-eqb e, q)) (λ q. rw (eq-eqb e, q))

-- one of another run
tags-skip : (t : List ℕ) (r low i : ℕ) → eqb (run_at t (suc i)) r ≡ false → tags_down t r low (suc i) ≡ tags_down t r low i
unfolding tags_down
tags-skip t r low i e = rw e

-- the key of each slot
abbrev key_at : List ℕ → ℕ → ℕ
key_at t j = key_in (get_or t j 0)

module _ (t : List ℕ) (r name : ℕ) (small : name < 65536) where
  name-here : (i : ℕ) → run_at t (suc i) ≡ r
      → last_where (key_at t) (65536 * r + name) (suc i) ≡ cond (eqb (slot_name (get_or t (suc i) 0)) name) (suc i) (last_where (key_at t) (65536 * r + name) i)
  unfolding last_where
  name-here i e =
      bool_cases (eqb (slot_name (get_or t (suc i) 0)) name)
      (λ q. let n : slot_name (get_or t (suc i) 0) ≡ name = eqb-eq q in
      let k : eqb (key_at t (suc i)) (65536 * r + name) ≡ true = omega tests in
      rw (q, k))
      (λ q. let n : slot_name (get_or t (suc i) 0) ≢ name = eqb-ne q in
      let k : eqb (key_at t (suc i)) (65536 * r + name) ≡ false = ne_eqb (λ (z : key_at t (suc i) ≡ 65536 * r + name). n (omega arith)) in
      rw (q, k))

  name-skip : (i : ℕ) → eqb (run_at t (suc i)) r ≡ false → last_where (key_at t) (65536 * r + name) (suc i) ≡ last_where (key_at t) (65536 * r + name) i
  name-skip i e =
      let n : run_at t (suc i) ≢ r = eqb-ne e in
      last-other (key_at t) (65536 * r + name) i (ne_eqb (λ (z : key_at t (suc i) ≡ 65536 * r + name). n (omega arith)))

-- ---- the walk

module _ (t last before : List ℕ) {w used : ℕ} (C : RunChains t last before w used) (in_table : used < length t) (in-chain : used < length before) {r : ℕ}
    (some : r < w) where
  start_small : get_or last r 0 ≤ used
  start_small = (walk-starts C r some refl).bound

  -- no table ends before the last slot of the run
  start-last : chain_start t last before r ≡ get_or last r 0
  unfolding chain_start
  start-last =
      let a = start_small in
      let p : get_or last r 0 < length t = omega arith in
      let q : get_or last r 0 < length before = omega arith in
      rw (lt-ltb p, lt-ltb q)

  -- What a walk makes of each slot in turn, where it makes the same of the slots of the run down from each, and the others change nothing.
  module _ {A : Type 0} (along : List ℕ → A) (down : ℕ → A) (step : ℕ → A → A) (ends : along [] ≡ down 0)
      (goes : (s : ℕ) (ss : List ℕ) → along (s ∷ ss) ≡ step s (along ss)) (here : (i : ℕ) → run_at t (suc i) ≡ r → down (suc i) ≡ step (suc i) (down i))
      (skip : (i : ℕ) → eqb (run_at t (suc i)) r ≡ false → down (suc i) ≡ down i) where
    walk_end : (s : ℕ) → s ≡ 0 → along (chain_from before s) ≡ down s
    walk_end s z = rw (chain-ends before z) (ends ∙ ap down (sym z))

    walk-down : (most s : ℕ) → s ≤ most → OnChain (run_at t) r s used → along (chain_from before s) ≡ down s
    walk-down zero s h S = walk_end s (omega arith)
    walk-down (suc most) s h S =
        eq-cases s 0
        (walk_end s)
        (λ z.
        let less : get_or before s 0 < s = walk-falls C r S z refl in
        let at : s ≡ suc (s - 1) = omega arith in
        let run : run_at t (suc (s - 1)) ≡ r = ap (run_at t) (sym at) ∙ S.bucket z in
        ap along (chain-goes before s z refl less)
        ∙ goes s (chain_from before (get_or before s 0))
        ∙ ap (step s) (walk-down most (get_or before s 0) (omega arith) (walk-goes C r S z refl) ∙ sym (skip-goes C r S z refl down skip))
        ∙ ap (λ (i : ℕ). step i (down (s - 1))) at
        ∙ sym (here (s - 1) run)
        ∙ ap down (sym at))

    walk-whole : along (chain_from before (chain_start t last before r)) ≡ down used
    walk-whole =
        let s = get_or last r 0 in
        rw start-last (walk-down s s (omega arith) (walk-starts C r some refl) ∙ sym (skip-starts C r some refl down skip))

  -- the tags of all slots of the run that say enough, the last first
  pub gathered-all : (low : ℕ) {room : ℕ} → used ≤ room → gathered t last before r low room ≡ tags_down t r low used
  unfolding gathered tags_along tags_down
  gathered-all low {room} fits =
      let a = start_small in
      let enough : chain_start t last before r ≤ room = omega (arith, start-last) in
      rw (le-leb enough)
      (walk-whole (tags_along t low) (tags_down t r low) (λ s l. tag_if low (get_or t s 0) s ++ l) refl (λ s ss. refl) (tags-here t r low) (tags-skip t r low))

  -- the slot of the run's key with the name
  pub named-is : {name : ℕ} → name < 65536 → named t last before r name ≡ last_where (λ j. key_in (get_or t j 0)) (65536 * r + name) used
  unfolding named first_named last_where
  named-is {name} small =
      walk-whole (first_named t name) (last_where (key_at t) (65536 * r + name)) (λ s k. cond (eqb (slot_name (get_or t s 0)) name) s k) refl (λ s ss. refl)
      (name-here t r name small) (name-skip t r name small)
