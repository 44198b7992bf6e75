-- The fit answer of two inputs: for accepted ones exactly as the record has it [F11], and otherwise the refusal by
-- the first number that applies, which is never 7.
-- Assumes nothing.
use Prim.Native.Nat.{ℕ}
use mathlib.Core.Bool.{Bool}
use mathlib.Core.List.{List}
use mathlib.Core.Option.{none, some}
use mathlib.Core.Path.{◌∙◌, ◌≡◌, ap, refl, sym}
use native.Mathlib.Omega.{arith}
use Rattle.blocks.proofs.Refusing.Readings.{readings-cases}
use Rattle.blocks.proofs.RoundTrip.Accepting.{accepted-by-none, refused-by-first}
use Rattle.blocks.proofs.RoundTrip.RefusalNumbers.{reading-number}
use Rattle.blocks.specs.Faults.{faults}
use Rattle.blocks.specs.Promise.{FirstOf, NoneApplies}
use Rattle.blocks.specs.Reading.{reading_of}
use Rattle.std.specs.Prelude.{Ok}
use Rattle.blocks.specs.Refusals.{number_of, refusal, refused}
use Rattle.blocks.specs.declared.Schema.TheVariants.{Description}
use Rattle.clashes.proofs.Refusals as clash
use Rattle.clashes.proofs.Refusals.{refused-exactly}
use Rattle.clashes.specs.Clash.{specimen_reading}
use Rattle.clashes.specs.Promise.{RefusedBy}
use Rattle.fit.proofs.AnswerLaws.{first-accepted, first-refused, second-judged, second-refused}
use Rattle.fit.specs.Answer.{FitAnswer, fit_of, returned, top_fits}
use Rattle.fit.specs.Promise.{FitsExactly, Judgeable}
use Rattle.blocks.specs.declared.Cause.{Cause}
use Rattle.blocks.specs.declared.Cause.TheVariants.{Room}
use Rattle.blocks.specs.declared.Refusal.{Refusal}

-- ---- accepted inputs

module _ (P s d : List ℕ) (r : Judgeable P s d) where
  says : fit_of P s d ≡ Ok (top_fits s d)
  says = sym (first-accepted P s d refl r.first_read (second-judged s d refl r.second-read refl))

  same-word : {b : Bool} → fit_of P s d ≡ Ok b → top_fits s d ≡ b
  same-word {b} e = let g : ◌≡◌ {A = FitAnswer} (Ok (top_fits s d)) (Ok b) = sym says ∙ e in let z : top_fits s d ≡ b = cc in z

  pub fit-exactly : FitsExactly P s d
  unfolding top_fits
  fit-exactly = record { yes = (same-word, λ t. says ∙ ap Ok t); no = (same-word, λ t. says ∙ ap Ok t) }

-- ---- the numbers of each case [K6]

module _ (P s d : List ℕ) where
  -- [R25] 11 before all else; [R25] input 1 first, with 12
  pub returned-first : {k : Cause} {i p : ℕ} → RefusedBy P s k i p → returned (fit_of P s d) ≡ record { fits = none; number = number_of k; input = i; place = p }
  returned-first f = ap returned (sym (first-refused P s d refl ((refused-exactly P s).1 f)))

  module _ {n : ℕ} (a : specimen_reading P s ≡ Ok n) where
    -- [R25] then input 2
    pub returned-second : {k : Cause} {p : ℕ} → FirstOf (faults Description d) k p
        → returned (fit_of P s d) ≡ record { fits = none; number = number_of k; input = 2; place = p }
    returned-second f = ap returned (sym (first-accepted P s d refl a (second-refused s d refl (refused-by-first Description 2 d f))))

    -- [F10] yes or no for the top item; nothing else is refused
    pub returned-fits : NoneApplies (faults Description d)
        → returned (fit_of P s d) ≡ record { fits = some (top_fits s d); number = 0; input = 0; place = 0 }
    returned-fits m =
        ap returned (says P s d (record { first = _; second = _; first_read = a; second-read = accepted-by-none Description 2 d m }))

  -- the list and both inputs are accepted where the answer is no refusal
  pub answered-judgeable : {X : Type 0} → ((k : Cause) (i p : ℕ) → fit_of P s d ≡ refused k i p → X) → (Judgeable P s d → X) → X
  answered-judgeable f g =
      readings-cases (specimen_reading P s) (reading_of Description 2 d)
      (λ k i p e. f k i p (sym (first-refused P s d refl e)))
      (λ n k i p a e. f k i p (sym (first-accepted P s d refl a (second-refused s d refl e))))
      (λ n m a e. g (record { first = n; second = m; first_read = a; second-read = e }))

  -- [F10] it writes no output: number 7 is never answered
  pub never-seven : {i p : ℕ} → fit_of P s d ≡ refused Room i p → ⊥
  never-seven {i} {p} e =
      readings-cases (specimen_reading P s) (reading_of Description 2 d)
      (λ k j q f.
      let g : refusal k j q ≡ refusal Room i p = let h : refused {A = Bool} k j q ≡ refused Room i p = first-refused P s d refl f ∙ e in cc in
      clash.reading-number P s f (ap (λ (x : Refusal). number_of x.cause) g))
      (λ n k j q a f.
      let g : refusal k j q ≡ refusal Room i p = let h : refused {A = Bool} k j q ≡ refused Room i p = first-accepted P s d refl a (second-refused s d refl f) ∙ e in cc in
      (reading-number Description 2 d f).0 (ap (λ (x : Refusal). number_of x.cause) g))
      (λ n m a f.
      let r : Judgeable P s d = record { first = n; second = m; first_read = a; second-read = f } in
      let g : Ok (top_fits s d) ≡ refused Room i p = sym (says P s d r) ∙ e in
      let w : ◌≡◌ {A = ℕ} 0 1 = cc in omega arith)
