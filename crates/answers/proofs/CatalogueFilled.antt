-- What a filled output says: a byte for each service, what each says of every record, and that later bytes stay.
-- Assumes nothing.
use Rattle.std.proofs.Common.{◌≡◌, ℕ, ◌<◌, ◌+◌, List, ◌++◌, length, drop, Ok, ap, ◌∙◌, arith, length-append}
use lib.ListN.{length-map}
use lib.Seq.{drop_at}
use Rattle.answers.proofs.Accepted.{admitted}
use Rattle.answers.proofs.CatalogueKept.{catalogue-means, catalogue-single}
use Rattle.answers.proofs.PromiseKept.{decided-named}
use Rattle.answers.proofs.Sent.{sent-plain-length}
use Rattle.answers.specs.Promise.{Admitted, ByteMeans, Fills}
use Rattle.catalogue.proofs.Bytes.{filled-taken, pairs-read, service-read, supplier-read}
use Rattle.catalogue.specs.Answer.{answers_of, catalogue_of, filled_after, filled_of}
use Rattle.catalogue.specs.Promise.{byte_at, service_at}
use Rattle.lists.specs.Parts.{parts_of}
use Rattle.names.specs.NamedReading.{plain_of, sent_of}
use Rattle.slots.specs.Catalogue.{service_bit}

module _ (P D c list out : List ℕ) {n : ℕ} (F : catalogue_of P D c list out ≡ Ok n) where
  supplier : Admitted D c
  supplier = admitted D 1 c (supplier-read P D c list out F)

  service : (i : ℕ) → i < n → Admitted D (service_at list i)
  service i h = service-read P D c list out F i h 1 {X = Admitted D (service_at list i)} (λ m e. admitted D 1 (service_at list i) e)

  byte-means : (i : ℕ) → i < n → ByteMeans P D c (service_at list i) (byte_at P D c list out i)
  byte-means i h =
      let d = service_at list i in
      let A = service i h in
      let first = sent-plain-length D c supplier in
      let second = sent-plain-length D d A in
      let o = plain_of D c ++ plain_of D d in
      let long : length o ≡ length (plain_of D c) + length (plain_of D d) = length-append (plain_of D c) (plain_of D d) in
      let one = catalogue-single P D c list out F i h o (omega (arith, first, second, long)) in
      let w = decided-named P D c d o (record { first = supplier; second = A; room = omega (arith, long) })
      (record { count = _; list_read = pairs-read P D c list out F }) in
      record {
        contained = catalogue-means P D c list out F i h;
        missed = (λ z. w.not-contained.0 (one.not-contained.0 z), λ m. one.not-contained.1 (w.not-contained.1 m));
        compared = λ o' room. catalogue-single P D c list out F i h o' (omega (arith, first, second));
      }

  filled-later : drop n (filled_of P D c list out) ≡ drop n out
  unfolding filled_of answers_of
  filled-later =
      let bits = answers_of P D c list in
      let T = filled-taken P D c list out F in
      let long : length bits ≡ length (parts_of list) = length-map (parts_of list) (service_bit P D (sent_of D c)) in
      let is : filled_of P D c list out ≡ bits ++ drop n out = ap (filled_after bits out) F in
      ap (drop n) is ∙ drop_at bits (drop n out) n (omega (arith, T.1, long))

pub fills : (P D c list out : List ℕ) (n : ℕ) → catalogue_of P D c list out ≡ Ok n → Fills P D c list out n
fills P D c list out n F =
    let T = filled-taken P D c list out F in
    record { count = T.1; room = T.2; later = filled-later P D c list out F; each = byte-means P D c list out F }
