-- The first fault of a list: what finding it means, and how a search goes on.
-- Assumes nothing.
use Rattle.std.proofs.Common.{◌≡◌, ℕ, true, List, [], ◌∷◌, ◌++◌, Option, Some, None, refl, ap, ◌∙◌, arith}
use Rattle.base.proofs.Tests.{bool_cases}
use Rattle.blocks.specs.Faults.{Fault, fault, first, Finding, Clean, Faulty}
use Rattle.blocks.specs.Promise.{FirstOf, NoneApplies}
use Rattle.blocks.specs.declared.Cause.{Cause}

-- ---- meaning

pub clean-none : (fs : List Fault) → first fs ≡ Clean → NoneApplies fs
unfolding first NoneApplies
clean-none [] e = tt
clean-none (f ∷ fs) e =
    bool_cases f.applies
    (λ q. let g : Faulty f.cause f.place ≡ Clean = rw q at e in let z : ◌≡◌ {A = ℕ} 0 1 = cc in absurd (omega arith))
    (λ q. (q, clean-none fs (rw q at e)))

pub none-clean : (fs : List Fault) → NoneApplies fs → first fs ≡ Clean
unfolding first NoneApplies
none-clean [] h = refl
none-clean (f ∷ fs) h = rw h.0 (none-clean fs h.1)

pub found_first : (fs : List Fault) (k : Cause) (p : ℕ) → first fs ≡ Faulty k p → FirstOf fs k p
unfolding first NoneApplies
found_first [] k p e = let z : ◌≡◌ {A = ℕ} 0 1 = cc in absurd (omega arith)
found_first (f ∷ fs) k p e =
    bool_cases f.applies
    (λ q.
    let g : Faulty f.cause f.place ≡ Faulty k p = rw q at e in
    let x : f.cause ≡ k = cc in
    let y : f.place ≡ p = cc in
    record { before = []; after = fs; listed = rw (← q, ← x, ← y); none = tt })
    (λ q.
    let r = found_first fs k p (rw q at e) in
    record { before = f ∷ r.before; after = r.after; listed = ap (λ (l : List Fault). f ∷ l) r.listed; none = (q, r.none) })

first-skips : (fs gs : List Fault) → NoneApplies fs → first (fs ++ gs) ≡ first gs
unfolding first NoneApplies
first-skips [] gs h = refl
first-skips (f ∷ fs) gs h = rw h.0 (first-skips fs gs h.1)

pub first_found : (fs : List Fault) (k : Cause) (p : ℕ) → FirstOf fs k p → first fs ≡ Faulty k p
unfolding first
first_found fs k p r = ap first r.listed ∙ first-skips r.before (fault true k p ∷ r.after) r.none

-- ---- a search in parts

abbrev pub or_else : Finding → Finding → Finding
or_else Clean g = g
or_else (Faulty k p) g = Faulty k p

pub first-append : (fs gs : List Fault) → first (fs ++ gs) ≡ or_else (first fs) (first gs)
unfolding first
first-append [] gs = refl
first-append (f ∷ fs) gs = bool_cases f.applies (λ q. rw q) (λ q. rw q (first-append fs gs))

-- where no later one applies, the search ends with the earlier ones
pub first-front : (fs gs : List Fault) → NoneApplies gs → first (fs ++ gs) ≡ first fs
unfolding first
first-front [] gs h = none-clean gs h
first-front (f ∷ fs) gs h = bool_cases f.applies (λ q. rw q) (λ q. rw q (first-front fs gs h))

-- what a step of a search finds, by the cause of the faults at one place, if there is one
abbrev pub step : Option Cause → ℕ → Finding → Finding
step None p g = g
step (Some k) p g = Faulty k p

pub step-more : (o : Option Cause) (p : ℕ) (g : Finding) → o ≡ None → step o p g ≡ g
step-more o p g e = rw e

pub step-found : (o : Option Cause) (p : ℕ) (g : Finding) {k : Cause} → o ≡ Some k → step o p g ≡ Faulty k p
step-found o p g e = rw e
