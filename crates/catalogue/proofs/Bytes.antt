-- What is behind a filled output: nothing is refused, the byte of each service, and what it says of every record.
-- Assumes nothing.
use Prim.Native.Nat.{◌+◌, ◌<◌, ◌≤◌, ℕ}
use lib.Dec.{ltb}
use lib.ListN.{get_or-append, drop, get_or, length, length-map}
use mathlib.Core.List.{List, []}
use mathlib.Core.Path.{◌∙◌, ◌≡◌, ap}
use native.Mathlib.Omega.{arith}
use Rattle.base.proofs.Lists.{get_d-map-in}
use Rattle.base.proofs.Tests.{bool_cases, ltb-ge}
use Rattle.blocks.proofs.Refusing.Readings.{reading-cases}
use Rattle.std.specs.Prelude.{Ok}
use Rattle.blocks.specs.Refusals.{refused}
use Rattle.catalogue.proofs.AnswerLaws.{list-taken}
use Rattle.catalogue.proofs.Refusals.{each-taken}
use Rattle.catalogue.specs.Answer.{answers_of, catalogue_of, filled_after, filled_of}
use Rattle.catalogue.specs.Promise.{byte_at, service_at}
use Rattle.lists.specs.Parts.{parts_of}
use Rattle.names.proofs.Legality.AcceptedReadings.{both-taken, sent-any}
use Rattle.names.specs.NamedReading.{dictionary_of, sent_of, unfolding_of}
use Rattle.pairs.specs.Pairs.{pairs_reading}
use Rattle.slots.specs.Catalogue.{list_reading, service_bit}
use Rattle.blocks.specs.declared.Cause.TheVariants.{Room}

module _ (P D c list out : List ℕ) {n : ℕ} (F : catalogue_of P D c list out ≡ Ok n) where
  -- nothing is refused, and there is a byte for each service
  pub filled-taken : (list_reading P D c list ≡ Ok n) × (n ≡ length (parts_of list)) × (n ≤ length out)
  unfolding catalogue_of
  filled-taken =
      reading-cases (list_reading P D c list)
      (λ k i p q. let z : refused k i p ≡ Ok n = rw q at F in let y : ◌≡◌ {A = ℕ} 0 1 = cc in absurd (omega arith))
      (λ m q. bool_cases (ltb (length out) (length (parts_of list)))
      (λ w. let z : refused Room 0 0 ≡ Ok n = rw (q, w) at F in let y : ◌≡◌ {A = ℕ} 0 1 = cc in absurd (omega arith))
      (λ w.
      let z : Ok (length (parts_of list)) ≡ Ok n = rw (q, w) at F in
      let is : n ≡ length (parts_of list) = cc in
      let same : m ≡ n = omega (arith, (list-taken P D c list q).count) in
      let l : length (parts_of list) ≤ length out = ltb-ge w in
      (q ∙ ap Ok same, is, omega arith)))

  -- the list of pairs is read, and the supplier's description is accepted
  pub pairs-read : pairs_reading P ≡ Ok (list-taken P D c list filled-taken.0).pairs
  pairs-read = (list-taken P D c list filled-taken.0).list_read

  pub supplier-read : unfolding_of D 1 c ≡ Ok (list-taken P D c list filled-taken.0).entries
  supplier-read = (list-taken P D c list filled-taken.0).supplier

  module _ (i : ℕ) (h : i < n) where
    within : i < length (parts_of list)
    within = omega (arith, filled-taken.1)

    -- so is the service, as any input
    pub service-read : (j : ℕ) {X : Type 0} → ((m : ℕ) → unfolding_of D j (service_at list i) ≡ Ok m → X) → X
    unfolding unfolding_of
    service-read j f =
        let T = list-taken P D c list filled-taken.0 in
        let S = each-taken (dictionary_of D) 2 (parts_of list) T.services i within in
        both-taken D 1 c supplier-read (λ m k q w.
        let here : unfolding_of D (2 + i) (service_at list i) ≡ Ok S.entries = rw q S.taken in
        f S.entries (sent-any D (2 + i) j (service_at list i) here))

    -- its byte
    pub byte-is : byte_at P D c list out i ≡ service_bit P D (sent_of D c) (service_at list i)
    unfolding filled_of answers_of
    byte-is =
        let bits = answers_of P D c list in
        let long : length bits ≡ length (parts_of list) = length-map (parts_of list) (service_bit P D (sent_of D c)) in
        let in-bits : i < length bits = omega (arith, within) in
        let is : filled_of P D c list out ≡ filled_after bits out (Ok n) = ap (filled_after bits out) F in
        ap (λ (l : List ℕ). get_or l i 0) is ∙ get_or-append bits (drop n out) 0 i in-bits ∙ get_d-map-in (service_bit P D (sent_of D c)) (parts_of list) [] 0 i within
