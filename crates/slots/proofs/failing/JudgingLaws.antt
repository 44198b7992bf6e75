-- Laws of judging: what is answered on each way, and what stands in the table.
-- Assumes nothing.
use Prim.Native.Nat.{◌<◌, ◌≤◌, ℕ}
use lib.ListN.{length}
use mathlib.Core.Bool.{Bool, false, true}
use mathlib.Core.List.{List}
use mathlib.Core.Logic.{◌≢◌}
use mathlib.Core.Path.{◌∙◌, ◌≡◌, ap, refl, sym}
use native.Mathlib.Omega.{arith}
use Rattle.base.proofs.Tests.{bool_cases, eq-cases, eq-eqb, ge-ltb, lt-ltb, ne_eqb}
use Rattle.base.specs.Search.{first_from}
use Rattle.blocks.proofs.RoundTrip.Accepting.{sound-of-accepted}
use Rattle.blocks.specs.Entries.{entries_of}
use Rattle.blocks.specs.Reading.{reading_of}
use Rattle.std.specs.Prelude.{Err, IfSome, None, Ok, Option, Some, eqb, is_some, not, unwrap_or}
use Rattle.blocks.specs.Refusals.{refused}
use Rattle.blocks.specs.declared.Refusal.{Refusal}
use Rattle.blocks.specs.declared.Schema.TheVariants.{Description}
use Rattle.logic.specs.Background.{Background, LawfulBackground}
use Rattle.pairs.specs.Pairs.{pairs_reading, under}
use Rattle.passes.specs.code.Slots.{Slot, inconsistent}
use Rattle.slots.proofs.FailingLaws.{accepted-few, first-refused, judged-read, list_read, list-refused, no_room, second-refused}
use Rattle.slots.proofs.HoldingLaws.{bottom-first, slots-first}
use Rattle.slots.proofs.filling.FillingLaws.{table-exact}
use Rattle.slots.specs.Holding.{Holding, failing_in, holding_by, holding_of}
use Rattle.slots.specs.code.Standing.{JudgedBy, Judges, judged_under, table_judged}
use Rattle.slots.specs.code.States.{Indexed, holds_by_slots}
use Rattle.slots.specs.code.Tables.{Chained, Held, slots_of}
use Rattle.slots.specs.declared.Unheld.{Unheld}
use Rattle.blocks.specs.declared.Cause.TheVariants.{Room}

-- ---- an entry fails, or none

pub none-fails : (f : Option ℕ) → IfSome f (λ n. 1 ≤ n) → (b : Bool) → is_some f ≡ not b → b ≡ eqb (unwrap_or f 0) 0
none-fails None h true e = refl
none-fails None h false e = cc
none-fails (Some n) h true e = cc
none-fails (Some n) h false e = sym (ne_eqb (omega arith))

-- ---- an input is refused, or the table is too short: it stays

module _ (b : Background) (c d t : List ℕ) where
  pub judging-first : {x : Refusal} → reading_of Description 1 c ≡ Err x → Judges b c d t (Err x) t
  unfolding judged_under
  judging-first e = (sym (first-refused b (length t) c d e), rw (judged_under, e), tt)

  module _ {n : ℕ} (e : reading_of Description 1 c ≡ Ok n) where
    pub judging-second : {x : Refusal} → reading_of Description 2 d ≡ Err x → Judges b c d t (Err x) t
    unfolding judged_under
    judging-second f = (sym (second-refused b (length t) c d e f), rw (judged_under, e, f), tt)

    pub judging-short : {m : ℕ} → reading_of Description 2 d ≡ Ok m → length t ≤ n → Judges b c d t (refused Room 0 0) t
    unfolding judged_under
    judging-short f h =
        let l : length t ≤ length (entries_of c) = omega (arith, (accepted-few 1 c e).0) in
        (sym (no_room b (length t) c d e f l), rw (judged_under, e, f, ge-ltb l), tt)

-- ---- both are accepted, and there is room

module _ {b : Background} (law : LawfulBackground b) (c d : List ℕ) {t cells : List ℕ} {most : ℕ} {used : ℕ} {impossible : Bool} (H : Held b c used t most cells impossible) where
  -- nothing fits the first: all hold
  pub failing-bottom : impossible ≡ true → 0 ≡ failing_in b c d
  unfolding failing_in
  failing-bottom z = sym (bottom-first law (entries_of c) (entries_of d) (sym H.top ∙ z))

  -- what is found by them is the first that is not held
  pub failing-found : {r m : ℕ} → reading_of Description 2 d ≡ Ok m → impossible ≡ false
      → ((ss : List Slot) → Indexed ss t most cells used → r ≡ first_from (holds_by_slots b ss (entries_of d)) 1 m) → r ≡ failing_in b c d
  unfolding failing_in
  failing-found f z g =
      let T = H.tabled in
      let lives : inconsistent 1 (slots_of b c) 0 ≡ false = sym H.top ∙ z in
      g (slots_of b c) (record { kept = H.kept; slotted = T.slotted })
      ∙ ap (first_from (holds_by_slots b (slots_of b c) (entries_of d)) 1) (accepted-few 2 d f).0
      ∙ slots-first law (entries_of c) (entries_of d) (omega (arith, T.counted, T.few)) (sound-of-accepted Description 2 d f).entries lives

-- where an entry fails, the top is possible
fails-possible : {b : Background} → LawfulBackground b → (c d : List ℕ) → failing_in b c d ≢ 0 → inconsistent 1 (slots_of b c) 0 ≡ false
unfolding failing_in
fails-possible {b} law c d z =
    bool_cases (inconsistent 1 (slots_of b c) 0) (λ q. absurd (z (bottom-first law (entries_of c) (entries_of d) q))) (λ q. q)

module _ {b : Background} (law : LawfulBackground b) {c t t' cells bad full : List ℕ} {most : ℕ} {n m used : ℕ} (d : List ℕ) (e : reading_of Description 1 c ≡ Ok n) (f : reading_of Description 2 d ≡ Ok m)
    (h : n < length t) (s : Chained b c used t t' most cells bad full) where
  room : length (entries_of c) < length t
  room = omega (arith, (accepted-few 1 c e).0)

  -- what is answered, and that the slots stand in the table
  pub judging-found : {r : ℕ} {a : Option Unheld} → r ≡ failing_in b c d → a ≡ holding_by used r → Judges b c d t (Ok a) t'
  unfolding judged_under
  judging-found {r} is k =
      let T = s.settled'.tabled in (
        rw (k, is, T.counted) (sym (judged-read b (length t) c d e f room)),
        rw (judged_under, e, f, lt-ltb room) (table-exact s.exact T),
        rw k (eq-cases r 0
            (λ y. rw (eq-eqb y) tt)
            (λ y. rw (ne_eqb y) (record { read = record { first = n; second = m; first_read = e; second-read = f }; tabled = T; possible = fails-possible law c d (λ w. y (is ∙ w)) }))),
      )

-- ---- under a list of pairs

module _ (P c d : List ℕ) where
  abbrev JudgesListed : List ℕ → Holding → List ℕ → Type 0
  JudgesListed t r t' = (r ≡ holding_of P (length t) c d) × (t' ≡ table_judged P c d t) × JudgedBy P c d t' r

  -- it is refused: the table stays
  pub judging-list : (t : List ℕ) {x : Refusal} → pairs_reading P ≡ Err x → JudgesListed t (Err x) t
  unfolding table_judged
  judging-list t e = (sym (list-refused P (length t) c d e), rw (table_judged, e), tt)

  -- it is accepted
  pub judging-listed : (t t' : List ℕ) {r : Holding} {n : ℕ} → pairs_reading P ≡ Ok n → Judges (under P) c d t r t' → JudgesListed t r t'
  unfolding table_judged
  judging-listed t t' e j = (j.0 ∙ sym (list_read P (length t) c d e), j.1 ∙ rw (table_judged, e), j.2)
