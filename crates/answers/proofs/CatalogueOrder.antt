-- The call on a catalogue refuses exactly by the first row that applies, and fills a byte for each service where none does.
-- Assumes nothing.
use Rattle.std.proofs.Common.{◌≡◌, ℕ, zero, suc, ◌+◌, ◌<◌, ◌≤◌, ◌%◌, List, [], length, get_or, Ok, refl, inl, inr, arith}
use Rattle.answers.proofs.AnswerLaws.{refused-answered, same-refused}
use Rattle.answers.proofs.DictionaryOrder.{dictionary-accepted, dictionary-cases, dictionary-refused, line_refused, none-accepted}
use Rattle.answers.proofs.Order.{line-cases, list_cases}
use Rattle.answers.specs.Calls.{NothingWritten, RefusedExactly}
use Rattle.answers.specs.Refusals.{AcceptedBy, CatalogueRefused, FirstService, ListCut, ServicesTaken, service_faults}
use Rattle.answers.specs.Refusals.CatalogueRefused.{broken as by-broken, dictionary as by-dictionary, list as by-list, many as by-many, service as by-service, short as by-short, supplier as by-supplier}
use Rattle.base.proofs.Tests.{eq-cases, lt-cases}
use Rattle.blocks.specs.Entries.{entries_of}
use Rattle.blocks.specs.Promise.{FirstOf, NoneApplies}
use Rattle.blocks.specs.Refusals.{refused}
use Rattle.blocks.specs.declared.Cause.{Cause}
use Rattle.blocks.specs.declared.Cause.TheVariants.{Count, Length, Room}
use Rattle.blocks.specs.declared.Entry.{Entry}
use Rattle.catalogue.proofs.Refusals.{ServiceTaken, all-filled, refused-broken, refused-dictionary, refused-empty, refused-many, refused-pairs, refused-service, refused-short, refused-stays, refused-supplier}
use Rattle.catalogue.specs.Answer.{catalogue_of, filled_of}
use Rattle.lists.specs.Parts.{parts_of}
use Rattle.names.specs.NamedReading.{dictionary_of, named_faults, named_unfolding}
use Rattle.names.specs.Unfold.{unfolded_by}
use Rattle.pairs.proofs.PairsAccepted as excluding
use Rattle.pairs.proofs.PairsRefused.{pairs-refused}
use Rattle.pairs.specs.Pairs.{pair_faults}

-- ---- a service

module _ (K : List (List Entry)) (i : ℕ) (s : List ℕ) where
  line-stops : {k : Cause} {p : ℕ} → FirstOf (named_faults K s) k p → named_unfolding K i s ≡ refused k i p
  unfolding named_unfolding
  line-stops f = let r = line_refused K i s f in rw r

  pub lines-pass : NoneApplies (named_faults K s) → ServiceTaken K i s
  unfolding named_unfolding
  lines-pass h = let r = none-accepted K i s h in record { entries = length (unfolded_by K (entries_of s)); taken = rw r }

module _ (D list : List ℕ) where
  abbrev Each : ℕ → Type 0
  Each n = (m : ℕ) → m < n → NoneApplies (service_faults D list m)

  -- the first of those from n on that is refused, or none is
  search : {X : Type 0} (left n : ℕ) → n + left ≡ length (parts_of list) → Each n
      → ((k : Cause) (i p : ℕ) → FirstService D list k i p → X) → (Each (length (parts_of list)) → X) → X
  search zero n e all f g = g (λ m l. all m (omega arith))
  search (suc left) n e all f g =
      line-cases D (2 + n) (get_or (parts_of list) n [])
      (λ k p r. f k (2 + n) p (record { before = n; there = omega arith; input = refl; accepted = all; first = r }))
      (λ z. search left (suc n) (omega arith) (λ m l. eq-cases m n (λ q. rw q z) (λ q. all m (omega arith))) f g)

  each-taken : {n : ℕ} → Each n → (j : ℕ) → j < n → ServiceTaken (dictionary_of D) (2 + j) (get_or (parts_of list) j [])
  each-taken all j l = lines-pass (dictionary_of D) (2 + j) (get_or (parts_of list) j []) (all j l)

-- ---- the call

module _ (P D c list out : List ℕ) where
  abbrev K : List (List Entry)
  K = dictionary_of D

  pub catalogue-refuses : {k : Cause} {i p : ℕ} → CatalogueRefused P D c list out k i p → catalogue_of P D c list out ≡ refused k i p
  catalogue-refuses (by-list f) = refused-pairs P D c list out (pairs-refused P f)
  catalogue-refuses (by-dictionary n r) = refused-dictionary P D c list out (excluding.none-accepted P n) (dictionary-refused D r)
  catalogue-refuses (by-supplier n T f) =
      refused-supplier P D c list out (excluding.none-accepted P n) (dictionary-accepted D T) (line-stops K 1 c f)
  catalogue-refuses (by-broken n B (inl z)) =
      refused-empty P D c list out (excluding.none-accepted P n) (dictionary-accepted D B.dictionary) (lines-pass K 1 c B.description).taken z
  catalogue-refuses (by-broken n B (inr z)) =
      let l = excluding.none-accepted P n in
      let d = dictionary-accepted D B.dictionary in
      let s = (lines-pass K 1 c B.description).taken in
      eq-cases (length list) 0 (λ e. refused-empty P D c list out l d s e) (λ some. refused-broken P D c list out l d s some z)
  catalogue-refuses (by-many n B some whole h) =
      refused-many P D c list out (excluding.none-accepted P n) (dictionary-accepted D B.dictionary) (lines-pass K 1 c B.description).taken some whole h
  catalogue-refuses (by-service n B C r) =
      let j = r.before in
      let i = r.input in
      let e = line-stops K (2 + j) (get_or (parts_of list) j []) r.first in
      rw i
      (refused-service P D c list out (excluding.none-accepted P n) (dictionary-accepted D B.dictionary) (lines-pass K 1 c B.description).taken
      C.some C.whole C.few j r.there (each-taken D list r.accepted) e)
  catalogue-refuses (by-short n B S h) =
      refused-short P D c list out (excluding.none-accepted P n) (dictionary-accepted D B.dictionary) (lines-pass K 1 c B.description).taken
      S.cut.some S.cut.whole S.cut.few (each-taken D list S.each) h

  -- otherwise it answers: as many bytes as there are services
  pub catalogue-answers : NoneApplies (pair_faults P) → AcceptedBy D c → ServicesTaken D list → length (parts_of list) ≤ length out
      → catalogue_of P D c list out ≡ Ok (length (parts_of list))
  catalogue-answers n B S h =
      all-filled P D c list out (excluding.none-accepted P n) (dictionary-accepted D B.dictionary) (lines-pass K 1 c B.description).taken
      S.cut.some S.cut.whole S.cut.few (each-taken D list S.each) h

  pub catalogue-cases : {X : Type 0} → ((k : Cause) (i p : ℕ) → CatalogueRefused P D c list out k i p → X)
      → (NoneApplies (pair_faults P) → AcceptedBy D c → ServicesTaken D list → length (parts_of list) ≤ length out → X) → X
  catalogue-cases f g =
      list_cases P
      (λ k p r. f k 0 p (by-list r))
      (λ n. dictionary-cases D
      (λ k i p r. f k i p (by-dictionary n r))
      (λ T. line-cases D 1 c
      (λ k p r. f k 1 p (by-supplier n T r))
      (λ z.
      let B : AcceptedBy D c = record { dictionary = T; description = z } in
      eq-cases (length list) 0
      (λ e. f Length 2 0 (by-broken n B (inl e)))
      (λ some. eq-cases (length list % 512) 0
      (λ whole. lt-cases 64 (length (parts_of list))
      (λ h. f Count 2 0 (by-many n B some whole h))
      (λ few.
      let C : ListCut list = record { some = some; whole = whole; few = few } in
      search D list (length (parts_of list)) 0 (omega arith) (λ m l. absurd (omega arith))
      (λ k i p r. f k i p (by-service n B C r))
      (λ all.
      let S : ServicesTaken D list = record { cut = C; each = all } in
      lt-cases (length out) (length (parts_of list)) (λ h. f Room 0 0 (by-short n B S h)) (λ h. g n B S h))))
      (λ broken. f Length 2 0 (by-broken n B (inr broken)))))))

  -- the list of pairs; the dictionary; the supplier; the list of services; each service in full; then 7: exactly by the first that applies
  pub catalogue-refused-exactly : RefusedExactly (catalogue_of P D c list out) (CatalogueRefused P D c list out)
  catalogue-refused-exactly k i p = (
    λ e. catalogue-cases
        (λ k' i' p' r. same-refused (CatalogueRefused P D c list out) (catalogue-refuses r) e r)
        (λ n B S h. refused-answered e (catalogue-answers n B S h)),
    catalogue-refuses,
  )

  pub catalogue-unchanged : NothingWritten (catalogue_of P D c list out) (filled_of P D c list out) out
  catalogue-unchanged k i p e = refused-stays P D c list out e
