-- What is promised of asking which entries earn a yes.
-- Assumes nothing.
use Prim.Native.Nat.{◌+◌, ◌-◌, ◌≤◌, ℕ}
use lib.ListN.{drop, get_or, get_or-append, length}
use lib.Seq.{drop_at}
use mathlib.Core.Bool.{Bool, false, true}
use mathlib.Core.List.{List}
use mathlib.Core.Logic.{◌↔◌}
use mathlib.Core.Path.{◌∙◌, ◌≡◌, ap, refl, sym}
use native.Mathlib.Omega.{arith}
use Rattle.base.proofs.Lists.{get_d-listed, length-listed, listed}
use Rattle.base.proofs.Tests.{eq-eqb, eqb-eq, lt-cases}
use Rattle.base.specs.Range.{bit}
use Rattle.blocks.proofs.Refusing.Readings.{reading-cases}
use Rattle.blocks.proofs.RoundTrip.Decoding.{decode-encode}
use Rattle.blocks.specs.Entries.{entries_of}
use Rattle.blocks.specs.Reading.{reading_of}
use Rattle.blocks.specs.Refusals.{refused}
use Rattle.blocks.specs.declared.Schema.TheVariants.{Description}
use Rattle.earning.proofs.AnswerLaws.{asked-answers, asked-first, asked-pairs, asked-second, asked-short}
use Rattle.earning.proofs.EqualEntries.{equal-later}
use Rattle.earning.specs.Answer.{asked_of, contained, earned_of, earning_of, earns, marked_bytes}
use Rattle.earning.specs.Promise.{EarnsEntries, EarnsYes, Within, earned_byte, earners_of}
use Rattle.meaning.proofs.Verdicts.Contained.{contained-all}
use Rattle.narrow_listed.proofs.AcceptedLegal.{legal-read}
use Rattle.narrow_listed.proofs.EarnedAccepted.{earning-contained, earning-needs, earning-read}
use Rattle.pairs.proofs.Under.{ruled-under}
use Rattle.pairs.specs.Pairs.{pairs_reading}
use Rattle.std.specs.Prelude.{Ok}

-- ---- an answer that is given

-- nothing is refused
pub record Taken (P c d of out : List ℕ) : Type 0 where
  pub pairs : ℕ
  pub list_read : pairs_reading P ≡ Ok pairs
  pub first : ℕ
  pub first_read : reading_of Description 1 c ≡ Ok first
  pub second : ℕ
  pub second-read : reading_of Description 2 d ≡ Ok second
  pub room : length (entries_of of) ≤ length out

pub asked-taken : {A X : Type 0} (P c d of out : List ℕ) {a r : A} → asked_of P c d of out a ≡ Ok r → (Taken P c d of out → r ≡ a → X) → X
asked-taken P c d of out {a} {r} e f =
    reading-cases (pairs_reading P)
    (λ k i p q. let z = sym (asked-pairs P c d of out a q) ∙ e in let y : ◌≡◌ {A = ℕ} 0 1 = cc in absurd (omega arith))
    (λ j l. reading-cases (reading_of Description 1 c)
    (λ k i p q. let z = sym (asked-first P c d of out a l q) ∙ e in let y : ◌≡◌ {A = ℕ} 0 1 = cc in absurd (omega arith))
    (λ n rc. reading-cases (reading_of Description 2 d)
    (λ k i p q. let z = sym (asked-second P c d of out a l rc q) ∙ e in let y : ◌≡◌ {A = ℕ} 0 1 = cc in absurd (omega arith))
    (λ m rd. lt-cases (length out) (length (entries_of of))
    (λ h. let z = sym (asked-short P c d of out a l rc rd h) ∙ e in let y : ◌≡◌ {A = ℕ} 0 1 = cc in absurd (omega arith))
    (λ h.
    let z = sym (asked-answers P c d of out a l rc rd h) ∙ e in
    let s : a ≡ r = cc in
    f (record { pairs = j; list_read = l; first = n; first_read = rc; second = m; second-read = rd; room = h }) (sym s)))))

-- ---- bytes that are written

module _ (M : ℕ → Bool) (n : ℕ) (out : List ℕ) where
  pub marked-later : drop n (marked_bytes M n out) ≡ drop n out
  unfolding marked_bytes
  marked-later =
      let l = listed (λ k. bit (M k)) 1 n in
      let long : length l ≡ n = length-listed (λ k. bit (M k)) 1 n in
      drop_at l (drop n out) n long

  pub marked-byte : (j : ℕ) → 1 ≤ j → j ≤ n → get_or (marked_bytes M n out) (j - 1) 0 ≡ bit (M j)
  unfolding marked_bytes
  marked-byte j lo hi =
      let f = λ (k : ℕ). bit (M k) in
      let long : length (listed f 1 n) ≡ n = length-listed f 1 n in
      let w : 1 + (j - 1) ≡ j = omega arith in
      get_or-append (listed f 1 n) (drop n out) 0 (j - 1) (omega arith) ∙ get_d-listed f 1 n 0 (j - 1) (omega arith) ∙ ap f w

-- ---- which entries earn a yes

pub refused-stays : (P c d out : List ℕ) {k : _} {i p : ℕ} → earning_of P c d out ≡ refused k i p → earned_of P c d out ≡ out
unfolding earned_of
refused-stays P c d out e = rw e refl

module _ (P c d out : List ℕ) {yes : Bool} (e : earning_of P c d out ≡ Ok yes) where
  written-is : earned_of P c d out ≡ marked_bytes (earns P c d) (length (entries_of c)) out
  unfolding earned_of
  written-is = rw e refl

  bit-one : (b : Bool) → bit b ≡ 1 → b ≡ true
  bit-one true q = refl
  bit-one false q = absurd (omega arith)

  byte-is : (j : ℕ) → 1 ≤ j → j ≤ length (entries_of c) → earned_byte P c d out j ≡ bit (earns P c d j)
  byte-is j lo hi = ap (λ (s : List ℕ). get_or s (j - 1) 0) written-is ∙ marked-byte (earns P c d) (length (entries_of c)) out j lo hi

  module _ (T : Taken P c d c out) (is : yes ≡ contained P c d) where
    within : (yes ≡ true) ↔ Within P (entries_of c) d
    within =
        let x = contained-all (ruled-under P T.list_read).lawful (entries_of c) (entries_of d) (legal-read 2 d T.second-read) in
        (λ y. x.0 (eqb-eq (sym is ∙ y)), λ s. is ∙ eq-eqb (x.1 s))

    yes-earned : yes ≡ true → EarnsYes P c d out
    yes-earned y =
        let t : contained P c d ≡ true = sym is ∙ y in
        let b : (j : ℕ) → 1 ≤ j → j ≤ length (entries_of c) → earned_byte P c d out j ≡ bit (earners_of P c d j)
        = λ j lo hi. byte-is j lo hi ∙ rw t refl in
        record {
          bytes = b;
          accepted = earning-read P c d T.list_read T.first_read T.second-read;
          still = rw decode-encode at (earning-contained P c d T.list_read T.first_read T.second-read (within.0 y));
          first = λ i j lo l hi s z.
              b j (omega arith) hi
              ∙ ap bit (equal-later (ruled-under P T.list_read).lawful (entries_of c) (entries_of d) (legal-read 1 c T.first_read) (legal-read 2 d T.second-read) (eqb-eq t) i j lo l hi s z);
          needed = λ j lo hi z m. earning-needs P c d T.list_read T.first_read T.second-read j lo hi z (bit-one (earners_of P c d j) (sym (b j lo hi) ∙ m));
        }

    kept : EarnsEntries P c d out yes
    kept =
        record {
          answer = within;
          room = T.room;
          later = ap (drop (length (entries_of c))) written-is ∙ marked-later (earns P c d) (length (entries_of c)) out;
          none = λ n j lo hi. let t : contained P c d ≡ false = sym is ∙ n in byte-is j lo hi ∙ rw t refl;
          some = yes-earned;
        }

  pub earns-entries : EarnsEntries P c d out yes
  unfolding earning_of
  earns-entries = asked-taken P c d c out {a = contained P c d} e kept
