-- [N20] one meaning, one set of bytes: for every two accepted descriptions their normal forms are equal byte for byte
-- exactly when the same items fit both in every finite record, under any one list of excluding pairs, and each with
-- any dictionary of its own.
-- Assumes nothing.
use Rattle.std.proofs.Common.{◌≡◌, ℕ, ◌+◌, ◌≤◌, ◌↔◌, List, length, None, Ok, sym, ap, ◌∙◌}
use Rattle.answers.proofs.Accepted.{plain-means}
use Rattle.answers.proofs.Order.{admitted-exactly, normal-answers}
use Rattle.answers.proofs.PromiseKept.{decided-named}
use Rattle.answers.proofs.Unfolded.{normal-plain}
use Rattle.answers.proofs.Ways.{normalised-ready}
use Rattle.answers.specs.Promise.{Admitted, ContainedNamed, SameItemsNamed, fits_in, normal_bytes}
use Rattle.base.proofs.Tests.{bool_cases, both_ways}
use Rattle.blocks.proofs.RoundTrip.Decoding.{decode-encode}
use Rattle.blocks.specs.Encoding.{encode, first_blocks}
use Rattle.blocks.specs.Entries.{entries_of}
use Rattle.blocks.specs.declared.Entry.{Entry}
use Rattle.meaning.proofs.NormalForms.NormalEntriesLaws.{normal-one}
use Rattle.meaning.specs.NormalEntries.{normal_entries}
use Rattle.named.specs.Answer.{compare_named, normalise_named, normalised_named}
use Rattle.names.specs.NamedReading.{plain_of}
use Rattle.normal.proofs.PromiseKept.{normalised-means}
use Rattle.normal.specs.Promise.{SameItems}
use Rattle.pairs.proofs.PairsAccepted.{accepted-none}
use Rattle.pairs.proofs.Under.{ruled-under}
use Rattle.pairs.specs.Pairs.{under}
use Rattle.pairs.specs.Promise.{ListRead}

-- the blocks that are written are those of one list of entries
form-blocks : (P D d out : List ℕ) {k : ℕ} → Admitted D d → normalise_named P D d out ≡ Ok k
    → first_blocks k (normalised_named P D d out) ≡ encode (normal_entries (under P) (entries_of (plain_of D d)))
form-blocks P D d out {k} A e =
    let g = normal-plain P D d out A in
    ap (first_blocks k) g.1 ∙ (normalised-means P (plain_of D d) out (sym g.0 ∙ e)).blocks

-- different entries have different blocks
encode_one : (es fs : List Entry) → encode es ≡ encode fs → es ≡ fs
encode_one es fs e = sym (decode-encode es) ∙ ap entries_of e ∙ decode-encode fs

-- the same items fit what is unfolded as fit the descriptions with names
module _ (P D c E d : List ℕ) (C : Admitted D c) (A : Admitted E d) where
  same-named : SameItems (under P) (plain_of D c) (plain_of E d) ↔ SameItemsNamed P D c E d
  same-named = (
    λ h R kept x i. sym (plain-means D c C R x) ∙ h R kept x i ∙ plain-means E d A R x,
    λ h R kept x i. plain-means D c C R x ∙ h R kept x i ∙ sym (plain-means E d A R x),
  )

  module _ (out out' : List ℕ) {k k' : ℕ} (L : ListRead P) (e : normalise_named P D c out ≡ Ok k) (f : normalise_named P E d out' ≡ Ok k') where
    bytes-exactly : (first_blocks k (normalised_named P D c out) ≡ first_blocks k' (normalised_named P E d out')) ↔ SameItemsNamed P D c E d
    bytes-exactly =
        let a = form-blocks P D c out C e in
        let b = form-blocks P E d out' A f in
        let es = entries_of (plain_of D c) in
        let ds = entries_of (plain_of E d) in
        let one = normal-one (ruled-under P L.list_read).lawful es ds in (
          λ q. same-named.0 (one.0 (encode_one (normal_entries (under P) es) (normal_entries (under P) ds) (sym a ∙ q ∙ b))),
          λ h. a ∙ ap encode (one.1 (same-named.1 h)) ∙ sym b,
        )

-- equal bytes exactly if one meaning, whatever the outputs held and however long they are, each with a dictionary of its own
pub one-set-of-bytes : (P D c E d out out' : List ℕ) {k k' : ℕ} → normalise_named P D c out ≡ Ok k → normalise_named P E d out' ≡ Ok k'
    → (first_blocks k (normalised_named P D c out) ≡ first_blocks k' (normalised_named P E d out')) ↔ SameItemsNamed P D c E d
one-set-of-bytes P D c E d out out' e f =
    normalised-ready P D c out e (λ L C. normalised-ready P E d out' f (λ L' A. bytes-exactly P D c E d C A out out' L e f))

-- [N20] any two accepted descriptions: each is normalised, into every output that is as long as the unfolded
-- description
pub accepted-one-set : (P D c E d out out' : List ℕ) → ListRead P → Admitted D c → Admitted E d
    → length (plain_of D c) ≤ length out → length (plain_of E d) ≤ length out'
    → (normal_bytes P D c out ≡ normal_bytes P E d out') ↔ SameItemsNamed P D c E d
accepted-one-set P D c E d out out' L C A r r' =
    let n = accepted-none P L.list_read in
    let e = normal-answers P D c out n ((admitted-exactly D c).0 C) r in
    let f = normal-answers P E d out' n ((admitted-exactly E d).0 A) r' in
    rw (e, f) (one-set-of-bytes P D c E d out out' e f)

-- ---- the comparison in place of the bytes

-- the same items fit both exactly if each is contained in the other
same-contained : (P D c d : List ℕ) → SameItemsNamed P D c D d ↔ (ContainedNamed P D c d × ContainedNamed P D d c)
same-contained P D c d = (
  λ h. (λ R kept x i t. sym (h R kept x i) ∙ t, λ R kept x i t. h R kept x i ∙ t),
  λ h R kept x i.
      bool_cases (fits_in R D c x)
      (λ t. t ∙ sym (h.0 R kept x i t))
      (λ f. bool_cases (fits_in R D d x) (λ t. absurd (both_ways (h.1 R kept x i t) f)) (λ g. f ∙ sym g)),
)

-- so files can be compared in place of the call: the bytes are equal exactly if each description is contained in the other
pub equal-contained : (P D c d out out' o o' : List ℕ) {k k' : ℕ} → normalise_named P D c out ≡ Ok k → normalise_named P D d out' ≡ Ok k'
    → length (plain_of D c) + length (plain_of D d) ≤ length o → length (plain_of D d) + length (plain_of D c) ≤ length o'
    → (first_blocks k (normalised_named P D c out) ≡ first_blocks k' (normalised_named P D d out'))
    ↔ ((compare_named P D c d o ≡ Ok None) × (compare_named P D d c o' ≡ Ok None))
equal-contained P D c d out out' o o' e f r r' =
    normalised-ready P D c out e (λ L C. normalised-ready P D d out' f (λ L' A.
    let one = one-set-of-bytes P D c D d out out' e f in
    let both = same-contained P D c d in
    let there = (decided-named P D c d o (record { first = C; second = A; room = r }) L).contained in
    let back = (decided-named P D d c o' (record { first = A; second = C; room = r' }) L).contained in (
      λ q. let h = both.0 (one.0 q) in (there.1 h.0, back.1 h.1),
      λ h. one.1 (both.1 (there.0 h.0, back.0 h.1)),
    )))
