-- The answers of the call on a catalogue are those for the unfolded inputs: the supplier's plain description, and the services' laid end to end,
-- with no dictionary.
-- Assumes nothing.
use Rattle.std.proofs.Common.{◌≡◌, ℕ, suc, ◌<◌, ◌≤◌, ◌+◌, List, [], ◌∷◌, map, length, get_or, Ok, sym, refl, ap, ◌∙◌, arith}
use lib.ListN.{length-map}
use Rattle.answers.proofs.CatalogueOrder.{catalogue-answers, catalogue-refuses, lines-pass}
use Rattle.answers.proofs.Order.{by_lines, by-reading, list_cases}
use Rattle.answers.proofs.Sent.{sent-plain-entries}
use Rattle.answers.proofs.Unfolded.{plain-admitted}
use Rattle.answers.specs.Promise.{Admitted, unfolded_list}
use Rattle.answers.specs.Refusals.{AcceptedBy, ServicesTaken}
use Rattle.answers.specs.Refusals.CatalogueRefused.{list as by-list, short as by-short}
use Rattle.base.proofs.Lists.{get_d-map-in}
use Rattle.base.proofs.Tests.{lt-cases}
use Rattle.blocks.specs.Entries.{entries_of}
use Rattle.blocks.specs.Promise.{NoneApplies}
use Rattle.blocks.specs.Refusals.{refused}
use Rattle.blocks.specs.declared.Cause.{Cause}
use Rattle.catalogue.proofs.Laid.{all-numbered, joined-some, joined-whole, laid-parts}
use Rattle.catalogue.proofs.Refusals.{ServiceTaken, refused-stays}
use Rattle.catalogue.specs.Answer.{answers_of, catalogue_of, filled_after, filled_of}
use Rattle.lists.proofs.PartLaws.{parts-of}
use Rattle.lists.specs.Parts.{parts_of}
use Rattle.names.specs.NamedReading.{dictionary_of, named_faults, plain_of, sent_of}
use Rattle.slots.specs.Catalogue.{service_bit}
use Rattle.slots.specs.Holding.{failing_in}
use Rattle.unfolding.proofs.BufferLaws.{sent-itself}

-- ---- one byte

-- it goes by the entries that both stand for
bit-plain : (P D s t d : List ℕ) → entries_of s ≡ entries_of t → Admitted D d → service_bit P D s d ≡ service_bit P [] t (plain_of D d)
unfolding service_bit failing_in
bit-plain P D s t d e A =
    let own = sent-itself [] (plain_of D d) refl in
    let same = sent-plain-entries D d A in
    rw (own, e, same) refl

bits-plain : (P D s t : List ℕ) → entries_of s ≡ entries_of t → (ds : List (List ℕ)) → ((j : ℕ) → j < length ds → Admitted D (get_or ds j []))
    → map (service_bit P D s) ds ≡ map (service_bit P [] t) (map (plain_of D) ds)
bits-plain P D s t e [] all = refl
bits-plain P D s t e (d ∷ ds) all =
    let one = bit-plain P D s t d e (all 0 (omega arith)) in
    let rest = bits-plain P D s t e ds (λ j l. all (suc j) (omega arith)) in
    rw (one, rest) refl

-- ---- the unfolded inputs

module _ (P D c list out : List ℕ) (B : AcceptedBy D c) (S : ServicesTaken D list) where
  abbrev ds : List (List ℕ)
  ds = parts_of list

  abbrev plains : List (List ℕ)
  plains = map (plain_of D) ds

  supplier : Admitted D c
  supplier = by_lines D c B

  service : (j : ℕ) → j < length ds → Admitted D (get_or ds j [])
  service j l = by_lines D (get_or ds j []) (record { dictionary = B.dictionary; description = S.each j l })

  many : length plains ≡ length ds
  many = length-map ds (plain_of D)

  -- with no dictionary all of them are accepted too
  plain-supplier : AcceptedBy [] (plain_of D c)
  plain-supplier = by-reading [] (plain_of D c) (plain-admitted D c supplier)

  plain-service : (j : ℕ) → j < length plains → NoneApplies (named_faults (dictionary_of []) (get_or plains j []))
  plain-service j l =
      let h : j < length ds = omega (arith, many) in
      let is : get_or plains j [] ≡ plain_of D (get_or ds j []) = get_d-map-in (plain_of D) ds [] [] j h in
      rw is (by-reading [] (plain_of D (get_or ds j [])) (plain-admitted D (get_or ds j []) (service j h))).description

  plain-taken : (j : ℕ) → j < length plains → ServiceTaken (dictionary_of []) (2 + j) (get_or plains j [])
  plain-taken j l = lines-pass (dictionary_of []) (2 + j) (get_or plains j []) (plain-service j l)

  -- laid end to end they are cut into just those
  cut : parts_of (unfolded_list D list) ≡ plains
  cut = laid-parts [] plains plain-taken

  some-service : 1 ≤ length ds
  some-service = let e = ap length (parts-of list S.cut.some) in omega (arith, e)

  plain-services : ServicesTaken [] (unfolded_list D list)
  plain-services =
      let A = all-numbered (dictionary_of []) 2 plains plain-taken in
      let few = S.cut.few in
      record {
        cut = record {
          some = joined-some plains A (omega (arith, many, some-service));
          whole = joined-whole plains A;
          few = rw cut (omega (arith, many));
        };
        each = rw cut plain-service;
      }

  count : length ds ≡ length (parts_of (unfolded_list D list))
  count = sym many ∙ ap length (sym cut)

  bytes : answers_of P D c list ≡ answers_of P [] (plain_of D c) (unfolded_list D list)
  unfolding answers_of
  bytes =
      let own = sent-itself [] (plain_of D c) refl in
      let supplied : entries_of (sent_of D c) ≡ entries_of (sent_of [] (plain_of D c)) = sent-plain-entries D c supplier ∙ ap entries_of (sym own) in
      bits-plain P D (sent_of D c) (sent_of [] (plain_of D c)) supplied ds service
      ∙ ap (map (service_bit P [] (sent_of [] (plain_of D c)))) (sym cut)

  abbrev Same : Type 0
  Same = (catalogue_of P D c list out ≡ catalogue_of P [] (plain_of D c) (unfolded_list D list) out)
      × (filled_of P D c list out ≡ filled_of P [] (plain_of D c) (unfolded_list D list) out)

  -- both are refused alike
  refused-alike : {k : Cause} {i p : ℕ} → catalogue_of P D c list out ≡ refused k i p
      → catalogue_of P [] (plain_of D c) (unfolded_list D list) out ≡ refused k i p → Same
  refused-alike a b = (
    a ∙ sym b,
    refused-stays P D c list out a ∙ sym (refused-stays P [] (plain_of D c) (unfolded_list D list) out b),
  )

  -- or both are filled alike
  filled-alike : {n : ℕ} → catalogue_of P D c list out ≡ Ok n → catalogue_of P [] (plain_of D c) (unfolded_list D list) out ≡ Ok n → Same
  unfolding filled_of
  filled-alike {n} a b = (
    a ∙ sym b,
    ap (filled_after (answers_of P D c list) out) a
        ∙ ap (λ (l : List ℕ). filled_after l out (Ok n)) bytes
        ∙ sym (ap (filled_after (answers_of P [] (plain_of D c) (unfolded_list D list)) out) b),
  )

  -- the answer and every byte of the output, whatever the list of pairs is and however long the output
  pub catalogue-unfolded : Same
  catalogue-unfolded =
      let L = unfolded_list D list in
      list_cases P
      (λ k p f. refused-alike (catalogue-refuses P D c list out (by-list f)) (catalogue-refuses P [] (plain_of D c) L out (by-list f)))
      (λ n. lt-cases (length out) (length ds)
      (λ h. refused-alike
      (catalogue-refuses P D c list out (by-short n B S h))
      (catalogue-refuses P [] (plain_of D c) L out (by-short n plain-supplier plain-services (omega (arith, count)))))
      (λ h. filled-alike (catalogue-answers P D c list out n B S h)
      (catalogue-answers P [] (plain_of D c) L out n plain-supplier plain-services (omega (arith, count)) ∙ ap Ok (sym count))))
