-- Laws of the call: what is asked beside no entries, and the ways to an answer.
-- Assumes nothing.
use Prim.Native.Nat.{◌<◌, ◌≤◌, ℕ}
use lib.Dec.{ltb}
use lib.ListN.{length}
use mathlib.Core.Bool.{Bool, ◌&&◌}
use mathlib.Core.List.{List, []}
use mathlib.Core.Path.{◌∙◌, ◌≡◌, ap, fun_ext, refl, sym}
use Rattle.base.proofs.Tests.{bool_cases, ge-ltb, lt-ltb}
use Rattle.blocks.specs.Entries.{entries_of}
use Rattle.blocks.specs.Reading.{reading_of}
use Rattle.blocks.specs.Refusals.{refused}
use Rattle.blocks.specs.declared.Cause.TheVariants.{Room}
use Rattle.blocks.specs.declared.Entry.{Entry}
use Rattle.blocks.specs.declared.Refusal.{Refusal}
use Rattle.blocks.specs.declared.Schema.TheVariants.{Description}
use Rattle.earning.proofs.AttemptLaws.{behind-none, none-entered}
use Rattle.earning.specs.Answer.{Asked, asked_of, contained, earned_of, earning_of, earns, marked_bytes}
use Rattle.earning.specs.Leaving.{left_beside, left_of, leaving_of, stays_in, suffices_beside, together}
use Rattle.logic.specs.Background.{Background}
use Rattle.narrow.specs.Earned.{earned, earners, sayers, suffices}
use Rattle.narrow.specs.Keeping.{keep_from, marked, thinned}
use Rattle.narrow.specs.Missing.{both}
use Rattle.pairs.specs.Pairs.{pairs_reading, under}
use Rattle.std.specs.Prelude.{Err, Ok}

-- ---- beside nothing

-- beside nothing, what suffices does so by itself
both-none : (es : List Entry) → both [] es ≡ es
unfolding both
both-none es = behind-none es

suffices-alone : (b : Background) (c d : List Entry) → suffices_beside b [] c d ≡ suffices b c d
suffices-alone b c d = fun_ext (λ K. rw (both-none (thinned K 1 c)) refl)

module _ (P c d : List ℕ) where
  pub together-alone : together P [] c d ≡ contained P c d
  together-alone = rw (none-entered, both-none (entries_of c)) refl

  left-alone : left_beside (under P) (entries_of []) (entries_of c) (entries_of d) ≡ earners (under P) (entries_of c) (entries_of d)
  unfolding left_beside earners
  left-alone =
      ap (λ (es : List Entry). keep_from (suffices_beside (under P) es (entries_of c) (entries_of d)) (length (entries_of c)) (sayers (entries_of c))) none-entered
      ∙ ap (λ (Q : (ℕ → Bool) → Bool). keep_from Q (length (entries_of c)) (sayers (entries_of c))) (suffices-alone (under P) (entries_of c) (entries_of d))

  pub stays-alone : stays_in P [] c d ≡ earns P c d
  unfolding earned
  stays-alone =
      fun_ext (λ n.
      ap (λ (x : Bool). x && marked (left_beside (under P) (entries_of []) (entries_of c) (entries_of d)) (entries_of c) n) together-alone
      ∙ ap (λ (M : ℕ → Bool). contained P c d && marked M (entries_of c) n) left-alone)

-- ---- the ways to an answer

pub ok-same : {a b : Bool} → a ≡ b → ◌≡◌ {A = Asked} (Ok a) (Ok b)
ok-same e = rw e refl

module _ {A : Type 0} (P c d of out : List ℕ) (a : A) where
  pub asked-pairs : {x : Refusal} → pairs_reading P ≡ Err x → asked_of P c d of out a ≡ Err x
  asked-pairs e = rw e refl

  module _ {j : ℕ} (p : pairs_reading P ≡ Ok j) where
    pub asked-first : {x : Refusal} → reading_of Description 1 c ≡ Err x → asked_of P c d of out a ≡ Err x
    asked-first e = rw (p, e) refl

    module _ {n : ℕ} (r : reading_of Description 1 c ≡ Ok n) where
      pub asked-second : {x : Refusal} → reading_of Description 2 d ≡ Err x → asked_of P c d of out a ≡ Err x
      asked-second e = rw (p, r, e) refl

      module _ {m : ℕ} (q : reading_of Description 2 d ≡ Ok m) where
        pub asked-short : length out < length (entries_of of) → asked_of P c d of out a ≡ refused Room 0 0
        asked-short h = rw (p, r, q, lt-ltb h) refl

        pub asked-answers : length (entries_of of) ≤ length out → asked_of P c d of out a ≡ Ok a
        asked-answers h = rw (p, r, q, ge-ltb h) refl

module _ (P c d out : List ℕ) where
  pub earning-refused : {x : Refusal} → asked_of P c d c out (contained P c d) ≡ Err x → (Err x ≡ earning_of P c d out) × (out ≡ earned_of P c d out)
  unfolding earned_of earning_of
  earning-refused e = (sym e, rw e refl)

  -- where the inputs are accepted, leaving out beside nothing answers
  pub earning-left : {j n m : ℕ} → pairs_reading P ≡ Ok j → reading_of Description 1 c ≡ Ok n → reading_of Description 2 d ≡ Ok m
      → (leaving_of P [] c d out ≡ earning_of P c d out) × (left_of P [] c d out ≡ earned_of P c d out)
  unfolding earned_of earning_of leaving_of left_of
  earning-left p r q =
      bool_cases (ltb (length out) (length (entries_of c)))
      (λ z. rw (p, r, q, z) (refl, refl))
      (λ z. (
        rw (p, r, q, z) (ok-same (together-alone P c d)),
        rw (p, r, q, z) (ap (λ (M : ℕ → Bool). marked_bytes M (length (entries_of c)) out) (stays-alone P c d)),
      ))
