-- Services that are accepted, laid end to end: the list is cut into just those, and each gets its byte.
-- Assumes nothing.
use Prim.Native.Nat.{◌%◌, ◌+◌, ◌≤◌, ◌<◌, suc, ℕ}
use lib.ListN.{get_or, length, length-append}
use mathlib.Core.List.{List, [], ◌∷◌}
use mathlib.Core.Logic.{◌≢◌}
use mathlib.Core.Path.{◌∙◌, ◌≡◌, ap, refl}
use native.Mathlib.Omega.{arith}
use Rattle.blocks.proofs.Refusing.Readings.{reading-cases}
use Rattle.blocks.proofs.RoundTrip.Accepting.{sound-of-accepted}
use Rattle.blocks.specs.Encoding.{joined}
use Rattle.blocks.specs.declared.Entry.{Entry}
use Rattle.std.specs.Prelude.{Ok}
use Rattle.blocks.specs.Refusals.{refused}
use Rattle.blocks.specs.declared.Schema.TheVariants.{Named}
use Rattle.catalogue.proofs.Refusals.{ServiceTaken, all-filled}
use Rattle.catalogue.specs.Answer.{catalogue_of}
use Rattle.lists.proofs.JoinedParts.{AllNumbered, Numbered, joined-parts, numbered}
use Rattle.lists.specs.Parts.{parts_of}
use Rattle.names.proofs.Legality.AcceptedReadings.{taken-read}
use Rattle.names.specs.NamedReading.{dictionary_of, dictionary_reading, named_reading, named_unfolding}
use Rattle.pairs.specs.Pairs.{pairs_reading}

-- ---- the blocks of what is accepted

taken-numbered : (K : List (List Entry)) (i : ℕ) (d : List ℕ) → ServiceTaken K i d → Numbered d
unfolding named_unfolding
taken-numbered K i d T =
    reading-cases (named_reading K i d)
    (λ k j p q. let z : refused k j p ≡ Ok T.entries = rw q at T.taken in let y : ◌≡◌ {A = ℕ} 0 1 = cc in absurd (omega arith))
    (λ m q. taken-read K i d q (λ n r. numbered (Named (length K)) d (sound-of-accepted (Named (length K)) i d r).blocks))

pub all-numbered : (K : List (List Entry)) (n : ℕ) (ds : List (List ℕ)) → ((i : ℕ) → i < length ds → ServiceTaken K (n + i) (get_or ds i [])) → AllNumbered ds
all-numbered K n [] all = tt
all-numbered K n (d ∷ ds) all =
    (taken-numbered K (n + 0) d (all 0 (omega arith)), all-numbered K (suc n) ds (λ i l. let z : suc n + i ≡ n + suc i = omega arith in rw z (all (suc i) (omega arith))))

pub joined-whole : (ds : List (List ℕ)) → AllNumbered ds → length (joined ds) % 512 ≡ 0
unfolding joined
joined-whole [] A = refl
joined-whole (d ∷ ds) A =
    let rest = joined-whole ds A.1 in
    let long = A.0.long in
    omega (arith, length-append d (joined ds))

pub joined-some : (ds : List (List ℕ)) → AllNumbered ds → 1 ≤ length ds → length (joined ds) ≢ 0
unfolding joined
joined-some [] A h = absurd (omega arith)
joined-some (d ∷ ds) A h = λ z. let long = A.0.long in let some = A.0.some in omega (arith, length-append d (joined ds))

-- ---- the services

module _ (D : List ℕ) (ds : List (List ℕ)) (all : (i : ℕ) → i < length ds → ServiceTaken (dictionary_of D) (2 + i) (get_or ds i [])) where
  -- [L1] laid end to end: they are the services of the list
  pub laid-parts : parts_of (joined ds) ≡ ds
  laid-parts = joined-parts ds (all-numbered (dictionary_of D) 2 ds all)

  -- [L3] 1 to 64 services, each accepted: none is refused, and each has its byte
  pub laid_filled : (P c out : List ℕ) {l m n : ℕ} → pairs_reading P ≡ Ok l → dictionary_reading D ≡ Ok m → named_unfolding (dictionary_of D) 1 c ≡ Ok n
      → 1 ≤ length ds → length ds ≤ 64 → length ds ≤ length out → catalogue_of P D c (joined ds) out ≡ Ok (length ds)
  laid_filled P c out p d s some few room =
      let A = all-numbered (dictionary_of D) 2 ds all in
      let same = laid-parts in
      let many : length (parts_of (joined ds)) ≡ length ds = ap length same in
      all-filled P D c (joined ds) out p d s (joined-some ds A some) (joined-whole ds A) (omega arith) (rw same all) (omega arith) ∙ ap Ok many
