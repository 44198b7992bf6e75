-- What is promised of asking what a description lacks.
-- Assumes nothing.
use Prim.Native.Nat.{◌+◌, ◌-◌, ◌<◌, ◌≤◌, ℕ}
use lib.ListN.{drop, get_or, length}
use mathlib.Core.Bool.{Bool, cond, false, true}
use mathlib.Core.List.{List}
use mathlib.Core.Logic.{◌≢◌, ◌↔◌}
use mathlib.Core.Path.{◌∙◌, ◌≡◌, ap, refl, sym}
use native.Mathlib.Omega.{arith}
use Rattle.base.proofs.Missing.{not-true}
use Rattle.base.proofs.Tests.{bool_cases, both_ways, eq-eqb, eqb-eq, lt-cases}
use Rattle.base.specs.Range.{bit}
use Rattle.blocks.proofs.Refusing.Readings.{reading-cases}
use Rattle.blocks.specs.Entries.{entries_of}
use Rattle.blocks.specs.Reading.{reading_of}
use Rattle.blocks.specs.Refusals.{refused}
use Rattle.blocks.specs.declared.Entry.{Entry}
use Rattle.blocks.specs.declared.Schema.TheVariants.{Description}
use Rattle.earning.proofs.PromiseKept.{marked-byte, marked-later}
use Rattle.earning.specs.Answer.{contained, marked_bytes}
use Rattle.earning.specs.Promise.{Within}
use Rattle.logic.specs.Background.{LawfulBackground}
use Rattle.meaning.proofs.Verdicts.Contained.{contained-all}
use Rattle.missing.proofs.AnswerLaws.{both-answers, both-first, both-long, both-narrow, both-pairs, both-second}
use Rattle.missing.proofs.Impossible.{none-together}
use Rattle.missing.proofs.RoomLaws.{few-both}
use Rattle.missing.specs.Answer.{against, asked_both, lack_of, lacked_of, lacks, missing_of}
use Rattle.missing.specs.Promise.{Adds, LacksEntries, NoneFits, addition, lacked_byte}
use Rattle.missing.specs.declared.Lack.TheVariants.{Addable, Against, Nothing}
use Rattle.missing.specs.declared.Lack.{Lack}
use Rattle.narrow.proofs.Missing.AdditionKept.{addition-accepted, cut-fewer, joined-accepted}
use Rattle.narrow.proofs.Missing.Additions.{addition-enough, addition-legal, missing-enough, missing-fails, missing-needed, missing-none, missing-same}
use Rattle.narrow.proofs.Missing.Failings.{fails-entailed}
use Rattle.narrow.specs.Missing.{missing}
use Rattle.narrow_listed.proofs.AcceptedLegal.{few-read, legal-read}
use Rattle.pairs.proofs.Under.{ruled-under}
use Rattle.pairs.specs.Pairs.{pairs_reading, under}
use Rattle.std.specs.Prelude.{Ok}

-- ---- an answer that is given

-- nothing is refused
pub record Taken (P c d out : List ℕ) : Type 0 where
  pub pairs : ℕ
  pub list_read : pairs_reading P ≡ Ok pairs
  pub first : ℕ
  pub first_read : reading_of Description 1 c ≡ Ok first
  pub second : ℕ
  pub second-read : reading_of Description 2 d ≡ Ok second
  pub few : length c + length d ≤ 8192
  pub room : length (entries_of d) ≤ length out

pub asked-taken : {A X : Type 0} (P c d out : List ℕ) {a r : A} → asked_both P c d out a ≡ Ok r → (Taken P c d out → r ≡ a → X) → X
asked-taken P c d out {a} {r} e f =
    reading-cases (pairs_reading P)
    (λ k i p q. let z = sym (both-pairs P c d out a q) ∙ e in let y : ◌≡◌ {A = ℕ} 0 1 = cc in absurd (omega arith))
    (λ j l. reading-cases (reading_of Description 1 c)
    (λ k i p q. let z = sym (both-first P c d out a l q) ∙ e in let y : ◌≡◌ {A = ℕ} 0 1 = cc in absurd (omega arith))
    (λ n rc. reading-cases (reading_of Description 2 d)
    (λ k i p q. let z = sym (both-second P c d out a l rc q) ∙ e in let y : ◌≡◌ {A = ℕ} 0 1 = cc in absurd (omega arith))
    (λ m rd. lt-cases 8192 (length c + length d)
    (λ h. let z = sym (both-long P c d out a l rc rd h) ∙ e in let y : ◌≡◌ {A = ℕ} 0 1 = cc in absurd (omega arith))
    (λ few. lt-cases (length out) (length (entries_of d))
    (λ h. let z = sym (both-narrow P c d out a l rc rd few h) ∙ e in let y : ◌≡◌ {A = ℕ} 0 1 = cc in absurd (omega arith))
    (λ h.
    let z = sym (both-answers P c d out a l rc rd few h) ∙ e in
    let s : a ≡ r = cc in
    f (record { pairs = j; list_read = l; first = n; first_read = rc; second = m; second-read = rd; few = few; room = h }) (sym s))))))

-- ---- the three answers

nothing-where : (x y : Bool) → (cond x Nothing (cond y Against Addable) ≡ Nothing) ↔ (x ≡ true)
nothing-where true y = (λ e. refl, λ e. refl)
nothing-where false true = (λ e. cc, λ e. cc)
nothing-where false false = (λ e. cc, λ e. cc)

against-where : (x y : Bool) → cond x Nothing (cond y Against Addable) ≢ Nothing → (cond x Nothing (cond y Against Addable) ≡ Against) ↔ (y ≡ true)
against-where true y h = absurd (h refl)
against-where false true h = (λ e. refl, λ e. refl)
against-where false false h = (λ e. cc, λ e. cc)

bit-one : (b : Bool) → bit b ≡ 1 → b ≡ true
bit-one true q = refl
bit-one false q = absurd (omega arith)

bit-none : (b : Bool) → bit b ≡ 0 → b ≡ false
bit-none true q = absurd (omega arith)
bit-none false q = refl

-- ---- what is lacking

pub refused-stays : (P c d out : List ℕ) {k : _} {i p : ℕ} → missing_of P c d out ≡ refused k i p → lacked_of P c d out ≡ out
unfolding lacked_of
refused-stays P c d out e = rw e refl

module _ (P c d out : List ℕ) {a : Lack} (e : missing_of P c d out ≡ Ok a) where
  abbrev C : List Entry
  C = entries_of c

  abbrev D : List Entry
  D = entries_of d

  written-is : lacked_of P c d out ≡ marked_bytes (lacks P c d) (length D) out
  unfolding lacked_of
  written-is = rw e refl

  byte-is : (j : ℕ) → 1 ≤ j → j ≤ length D → lacked_byte P c d out j ≡ bit (lacks P c d j)
  byte-is j lo hi = ap (λ (s : List ℕ). get_or s (j - 1) 0) written-is ∙ marked-byte (lacks P c d) (length D) out j lo hi

  module _ (T : Taken P c d out) where
    law : LawfulBackground (under P)
    law = (ruled-under P T.list_read).lawful

    within : (contained P c d ≡ true) ↔ Within P C d
    within = let x = contained-all law C D (legal-read 2 d T.second-read) in (λ y. x.0 (eqb-eq y), λ s. eq-eqb (x.1 s))

    against-none : (against P c d ≡ true) ↔ NoneFits P c d
    against-none =
        let x = none-together law C D (legal-read 1 c T.first_read) (legal-read 2 d T.second-read) in
        (λ y. x.0 (eqb-eq y), λ s. eq-eqb (x.1 s))

    marked-is : (j : ℕ) → 1 ≤ j → j ≤ length D → lacked_byte P c d out j ≡ 1 → lacks P c d j ≡ true
    marked-is j lo hi m = bit-one (lacks P c d j) (sym (byte-is j lo hi) ∙ m)

    added : Adds P c d out
    added =
        let L = legal-read 1 c T.first_read in
        let M = legal-read 2 d T.second-read in
        let few : length C + length (addition P c d) ≤ 1008 = omega (arith, cut-fewer (lacks P c d) 0 D, few-both c d T.first_read T.second-read T.few) in
        record {
          accepted = λ i. addition-accepted law C D L M i (few-read 2 d T.second-read);
          joined = λ i. joined-accepted law C D L M i (addition P c d) (addition-legal law C D L M) few;
          fits-both = λ r kept x i h g. addition-enough law C D L M r kept x i h g;
          enough = missing-enough law C D L M;
          same = missing-same law C D L M;
          fails = λ j lo hi z m s. both_ways (missing-fails law C D L M j lo hi z (marked-is j lo hi m)) ((fails-entailed law C D j z).1 s);
          needed = λ j lo hi z m. missing-needed law C D L M j lo hi z (marked-is j lo hi m);
        }

    none-marked : ((j : ℕ) → 1 ≤ j → j ≤ length D → lacked_byte P c d out j ≡ 0) ↔ Within P C d
    none-marked =
        let x = missing-none law C D (legal-read 1 c T.first_read) (legal-read 2 d T.second-read) in (
          λ f. x.0 (λ j lo hi. bit-none (lacks P c d j) (sym (byte-is j lo hi) ∙ f j lo hi)),
          λ s j lo hi. byte-is j lo hi ∙ ap bit (x.1 s j lo hi),
        )

    module _ (is : a ≡ lack_of P c d) where
      nothing-is : (a ≡ Nothing) ↔ Within P C d
      nothing-is =
          let x = nothing-where (contained P c d) (against P c d) in (λ y. within.0 (x.0 (sym is ∙ y)), λ s. is ∙ x.1 (within.1 s))

      against-is : a ≢ Nothing → (a ≡ Against) ↔ NoneFits P c d
      against-is h =
          let x = against-where (contained P c d) (against P c d) (λ y. h (is ∙ y)) in
          (λ y. against-none.0 (x.0 (sym is ∙ y)), λ s. is ∙ x.1 (against-none.1 s))

      kept : LacksEntries P c d out a
      kept =
          record {
            nothing = nothing-is;
            against = against-is;
            room = T.room;
            later = ap (drop (length D)) written-is ∙ marked-later (lacks P c d) (length D) out;
            bytes = byte-is;
            none = none-marked;
            adds = added;
          }

  pub lacks-entries : LacksEntries P c d out a
  unfolding missing_of
  lacks-entries = asked-taken P c d out {a = lack_of P c d} e kept
