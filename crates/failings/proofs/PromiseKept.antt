-- What is promised of asking which entries fail.
-- Assumes nothing.
use Prim.Native.Nat.{◌-◌, ◌<◌, ◌≤◌, ℕ}
use lib.ListN.{drop, get_or, length}
use mathlib.Core.Bool.{Bool, false, not, true}
use mathlib.Core.List.{List}
use mathlib.Core.Logic.{◌≢◌, ◌↔◌}
use mathlib.Core.Path.{◌∙◌, ◌≡◌, ap, refl, sym}
use native.Mathlib.Omega.{arith}
use Rattle.base.proofs.SearchLaws.{first-least}
use Rattle.base.proofs.Tests.{eq-eqb, eqb-eq}
use Rattle.base.specs.Range.{bit}
use Rattle.blocks.proofs.RoundTrip.Accepting.{encoded-accepted}
use Rattle.blocks.specs.Encoding.{encode}
use Rattle.blocks.specs.Entries.{entries_of}
use Rattle.blocks.specs.Promise.{Legal}
use Rattle.blocks.specs.Reading.{reading_of}
use Rattle.blocks.specs.Refusals.{refused}
use Rattle.blocks.specs.declared.Entry.{Entry}
use Rattle.blocks.specs.declared.Schema.TheVariants.{Description}
use Rattle.earning.proofs.PromiseKept.{Taken, asked-taken, marked-byte, marked-later}
use Rattle.earning.specs.Answer.{contained, marked_bytes}
use Rattle.failings.specs.Answer.{failed_of, failing_of, fails}
use Rattle.failings.specs.Promise.{FailsEach, Says, failing_byte}
use Rattle.logic.specs.Background.{LawfulBackground}
use Rattle.meaning.proofs.Verdicts.Contained.{contained-all}
use Rattle.meaning.specs.Failing.{failing}
use Rattle.narrow.proofs.Missing.AdditionKept.{cut-fewer}
use Rattle.narrow.proofs.Missing.Failings.{every-passes, failing-lowest, only-legal}
use Rattle.narrow.specs.Keeping.{marked}
use Rattle.narrow.specs.Missing.{only}
use Rattle.narrow_listed.proofs.AcceptedLegal.{few-read, legal-read}
use Rattle.narrow_listed.proofs.MissingAccepted.{failing-byte, failing-no-byte}
use Rattle.pairs.proofs.Under.{ruled-under}
use Rattle.pairs.specs.Pairs.{under}
use Rattle.std.specs.Prelude.{Ok, eqb}

pub failing-stays : (P c d out : List ℕ) {k : _} {i p : ℕ} → failing_of P c d out ≡ refused k i p → failed_of P c d out ≡ out
unfolding failed_of
failing-stays P c d out e = rw e refl

zero-bit : (a : Bool) → bit a ≡ 0 → a ≡ false
zero-bit true q = absurd (omega arith)
zero-bit false q = refl

not-false : (a : Bool) → not a ≡ false → a ≡ true
not-false true q = refl
not-false false q = sym q

not-true : (a : Bool) → not a ≡ true → a ≡ false
not-true true q = sym q
not-true false q = refl

module _ (P c d out : List ℕ) {yes : Bool} (e : failing_of P c d out ≡ Ok yes) where
  abbrev C : List Entry
  C = entries_of c

  abbrev D : List Entry
  D = entries_of d

  written-is : failed_of P c d out ≡ marked_bytes (fails P c d) (length D) out
  unfolding failed_of
  written-is = rw e refl

  byte-is : (j : ℕ) → 1 ≤ j → j ≤ length D → failing_byte P c d out j ≡ bit (fails P c d j)
  byte-is j lo hi = ap (λ (s : List ℕ). get_or s (j - 1) 0) written-is ∙ marked-byte (fails P c d) (length D) out j lo hi

  byte-zero : (j : ℕ) → 1 ≤ j → j ≤ length D → failing_byte P c d out j ≡ 0 → fails P c d j ≡ false
  byte-zero j lo hi z = zero-bit (fails P c d j) (sym (byte-is j lo hi) ∙ z)

  module _ (T : Taken P c d d out) (is : yes ≡ contained P c d) where
    law : LawfulBackground (under P)
    law = (ruled-under P T.list_read).lawful

    legal : Legal Description D
    legal = legal-read 2 d T.second-read

    within : (yes ≡ true) ↔ Says P c D
    within = let x = contained-all law C D legal in (λ y. x.0 (eqb-eq (sym is ∙ y)), λ s. is ∙ eq-eqb (x.1 s))

    exact : (j : ℕ) → 1 ≤ j → j ≤ length D → (failing_byte P c d out j ≡ 0) ↔ Says P c (only D j)
    exact j lo hi =
        let x = failing-byte P c d T.list_read T.first_read T.second-read j lo hi in
        (λ z. x.0 (byte-zero j lo hi z), λ s. byte-is j lo hi ∙ ap bit (x.1 s))

    nowhere : (yes ≡ true) ↔ ((j : ℕ) → 1 ≤ j → j ≤ length D → failing_byte P c d out j ≡ 0)
    nowhere =
        let x = failing-no-byte P c d T.list_read T.first_read T.second-read in
        (λ y j lo hi. byte-is j lo hi ∙ ap bit (x.1 (within.0 y) j lo hi), λ f. within.1 (x.0 (λ j lo hi. byte-zero j lo hi (f j lo hi))))

    accepted : (i j : ℕ) → reading_of Description i (encode (only D j)) ≡ Ok (length (only D j))
    accepted i j =
        let few = few-read 2 d T.second-read in
        let fewer = cut-fewer (marked (λ k. eqb k j) D) 0 D in
        encoded-accepted Description i (only D j) (only-legal D legal j) tt (omega arith)

    lowest-is : (j : ℕ) → j ≡ failing (under P) C D → j ≢ 0
        → (1 ≤ j) × (j ≤ length D) × (failing_byte P c d out j ≡ 1) × ((i : ℕ) → 1 ≤ i → i < j → failing_byte P c d out i ≡ 0)
    lowest-is j q z =
        let L = first-least (λ n. not (fails P c d n)) 1 (length D) (failing-lowest law C D ∙ sym q) z in
        let hi : j ≤ length D = omega (arith, L.high) in (
          L.low,
          hi,
          byte-is j L.low hi ∙ ap bit (not-false (fails P c d j) L.fails),
          λ i lo l. byte-is i lo (omega arith) ∙ ap bit (not-true (fails P c d i) (L.before i lo l)),
        )

    kept : FailsEach P c d out yes
    kept =
        record {
          answer = within;
          room = T.room;
          later = ap (drop (length D)) written-is ∙ marked-later (fails P c d) (length D) out;
          byte = byte-is;
          exactly = exact;
          alone = accepted;
          none = nowhere;
          every = λ j lo hi z. byte-is j lo hi ∙ ap bit (every-passes law C D j z);
          lowest = lowest-is;
        }

  pub fails-each : FailsEach P c d out yes
  unfolding failing_of
  fails-each = asked-taken P c d d out {a = contained P c d} e kept
