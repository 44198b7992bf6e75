-- The byte of each entry of a second description, by the slots of the first and by its normal form; and the ways to an answer.
-- Assumes nothing.
use Prim.Native.Nat.{◌+◌, ◌≤◌, suc, zero, ℕ}
use lib.Dec.{eqb}
use lib.ListN.{drop, length, replicate, set, take}
use lib.Seq.{length-take-le}
use mathlib.Core.Bool.{Bool, ◌&&◌, false, false≢true, not, true}
use mathlib.Core.List.{List, [], ◌++◌, ◌∷◌}
use mathlib.Core.Path.{◌∙◌, ◌≡◌, ap, refl, sym}
use native.Mathlib.Omega.{arith}
use Rattle.base.proofs.Lists.{length-listed, listed, listed-last}
use Rattle.base.proofs.SearchLaws.{first-none, none_first}
use Rattle.base.proofs.StoresLaws.{stored-front, stored_one, stored-then}
use Rattle.base.proofs.Tests.{and_left, and_right, eq-cases, eq-eqb, eqb-eq, iff-eq}
use Rattle.base.specs.Range.{bit}
use Rattle.base.specs.Search.{first_from}
use Rattle.base.specs.Stores.{stored}
use Rattle.blocks.proofs.Refusing.InOrder.{listed-same}
use Rattle.blocks.proofs.RoundTrip.Accepting.{sound-of-accepted}
use Rattle.blocks.specs.Entries.{entries_of}
use Rattle.blocks.specs.Reading.{reading_of}
use Rattle.blocks.specs.declared.Entry.{Entry}
use Rattle.blocks.specs.declared.Refusal.{Refusal}
use Rattle.blocks.specs.declared.Schema.TheVariants.{Description}
use Rattle.logic.specs.Background.{Background, LawfulBackground}
use Rattle.meaning.specs.Failing.{normal_of}
use Rattle.meaning.specs.First.{entry_holds}
use Rattle.pairs.specs.Pairs.{pairs_reading, under}
use Rattle.passes.specs.code.Slots.{Slot, inconsistent}
use Rattle.slots.proofs.FailingLaws.{accepted-few}
use Rattle.slots.proofs.HoldingLaws.{every_holds, bottom-each, bottom-first, slots-each, slots-first}
use Rattle.slots.specs.Each.{each_after, each_of, failing_bytes}
use Rattle.slots.specs.Holding.{failing_in}
use Rattle.slots.specs.code.States.{Indexed, holds_by_slots, holds_in_state, nowhere, passed, state_below}
use Rattle.slots.specs.code.Tables.{Held, slots_of}
use Rattle.slots.specs.declared.Judgement.{Judgement}
use Rattle.std.specs.Prelude.{Err, IfSome, None, Ok, Option, Result, Some, is_some, unwrap_or}

-- ---- one entry more

-- none of the first entries fails
pub none-more : (f : ℕ → Bool) (n : ℕ) → eqb (first_from f 1 (suc n)) 0 ≡ (eqb (first_from f 1 n) 0 && f (suc n))
none-more f n =
    iff-eq
    (λ e.
    let all = first-none f 1 (suc n) (omega arith) (eqb-eq e) in
    let front : eqb (first_from f 1 n) 0 ≡ true = eq-eqb (none_first f 1 n (λ j lo hi. all j lo (omega arith))) in
    rw front (all (suc n) (omega arith) (omega arith)))
    (λ e.
    let front = first-none f 1 n (omega arith) (eqb-eq (and_left (eqb (first_from f 1 n) 0) (f (suc n)) e)) in
    eq-eqb
    (none_first f 1 (suc n)
    (λ j lo hi. eq-cases j (suc n) (λ z. rw z (and_right (eqb (first_from f 1 n) 0) (f (suc n)) e)) (λ z. front j lo (omega arith)))))

-- and none of one more, by whether that one holds
pub judged-more : (f : ℕ → Bool) (n : ℕ) {m : ℕ} {none found held : Bool} → m ≡ suc n → none ≡ eqb (first_from f 1 n) 0 → f (suc n) ≡ held → found ≡ held
    → (none && found) ≡ eqb (first_from f 1 m) 0
judged-more f n {m} {none} {found} {held} q e h g =
    ap (λ (x : Bool). x && found) e
    ∙ ap (λ (y : Bool). eqb (first_from f 1 n) 0 && y) (g ∙ sym h)
    ∙ sym (none-more f n)
    ∙ ap (λ (k : ℕ). eqb (first_from f 1 k) 0) (sym q)

-- one value more of a function, right after those that are stored
value-more : (f : ℕ → ℕ) (l : List ℕ) (n : ℕ) {u : List ℕ} {x : ℕ} → u ≡ stored l 0 (listed f 1 n) → x ≡ f (suc n)
    → set u n x ≡ stored l 0 (listed f 1 (suc n))
value-more f l n {u} {x} e q =
    let long = length-listed f 1 n in
    let next : 1 + n ≡ suc n = omega arith in
    stored-then l (listed f 1 n) (x ∷ []) 0 n e (stored_one u n x) (omega (arith, long))
    ∙ ap (stored l 0) (ap (λ (y : ℕ). listed f 1 n ++ (y ∷ [])) (q ∙ ap f (sym next)) ∙ sym (listed-last f 1 n))

twice : (a : Bool) → not (not a) ≡ a
twice true = refl
twice false = refl

-- the byte of one entry more: 1 where it fails
pub byte-more : (f : ℕ → Bool) (l : List ℕ) (n : ℕ) {m : ℕ} {u : List ℕ} {x : ℕ} (lost : Bool) {held : Bool} → m ≡ suc n
    → u ≡ stored l 0 (listed (λ k. bit (not (f k))) 1 n) → f (suc n) ≡ held → held ≡ not lost → x ≡ bit lost
    → set u n x ≡ stored l 0 (listed (λ k. bit (not (f k))) 1 m)
byte-more f l n {m} {u} {x} lost {held} q e h g w =
    value-more (λ k. bit (not (f k))) l n e (w ∙ ap bit (sym (twice lost) ∙ ap not (sym g ∙ sym h)))
    ∙ ap (λ (k : ℕ). stored l 0 (listed (λ j. bit (not (f j))) 1 k)) (sym q)

-- ---- the state that is noted for an entry

-- it is one of those that a table may have
pub noted-small : (r : Option ℕ) → IfSome r (λ y. y ≤ passed) → {y : ℕ} → y ≡ unwrap_or r nowhere → y ≤ passed
noted-small None h e = omega arith
noted-small (Some y) h e = omega arith

-- an 'every' holds, and it is the state below it
pub noted-every : (b : Background) (ss : List Slot) (s : ℕ) (e : Entry) → e.kind ≡ 5 → (r : Option ℕ) → is_some r ≡ holds_in_state b ss s e
    → IfSome r (λ y. y ≡ state_below ss s e.name) → {y : ℕ} → y ≡ unwrap_or r nowhere → y ≡ state_below ss s e.name
noted-every b ss s e k None h f w = absurd (false≢true (h ∙ every_holds b ss s e k))
noted-every b ss s e k (Some y) h f w = w ∙ f

-- zeros at the front are the values of the function that is 0
zeros-listed : (i n : ℕ) → replicate {A = ℕ} n 0 ≡ listed (λ k. 0) i n
unfolding listed
zeros-listed i zero = refl
zeros-listed i (suc n) = ap (λ (l : List ℕ). 0 ∷ l) (zeros-listed (suc i) n)

pub zeros-front : (l : List ℕ) (n : ℕ) {z : List ℕ} → n ≤ length l → z ≡ replicate {A = ℕ} (length (take n l)) 0
    → z ++ drop n l ≡ stored l 0 (listed (λ k. 0) 1 n)
zeros-front l n {z} h e =
    let w = length-listed (λ k. 0) 1 n in
    let q : z ≡ listed (λ k. 0) 1 n = e ∙ ap (λ (k : ℕ). replicate {A = ℕ} k 0) (length-take-le n l h) ∙ zeros-listed 1 n in
    ap (λ (x : List ℕ). x ++ drop n l) q
    ∙ sym (stored-front l (listed (λ k. 0) 1 n) (omega (arith, w)) ∙ ap (λ (k : ℕ). listed (λ k. 0) 1 n ++ drop k l) w)

-- ---- by the slots, and by the normal form

module _ {b : Background} (law : LawfulBackground b) (c d : List ℕ) {t cells : List ℕ} {most : ℕ} {used : ℕ} {impossible : Bool} (H : Held b c used t most cells impossible) where
  -- nothing fits the first: no entry fails
  pub each-bottom : (n : ℕ) (old : List ℕ) {new : List ℕ} → impossible ≡ true → n ≡ length (entries_of d) → new ≡ stored old 0 (listed (λ k. 0) 1 n)
      → (true ≡ eqb (failing_in b c d) 0) × (new ≡ stored old 0 (failing_bytes b c d))
  unfolding failing_in failing_bytes
  each-bottom n old {new} z e w =
      let top : inconsistent 1 (slots_of b c) 0 ≡ true = sym H.top ∙ z in
      let zeros : listed (λ k. 0) 1 n ≡ listed (λ k. bit (not (entry_holds b (normal_of b (entries_of c)) (entries_of d) k))) 1 n
      = listed-same _ _ 1 1 n (λ k h. rw (bottom-each law (entries_of c) (entries_of d) top (1 + k)) refl) in
      (sym (eq-eqb (bottom-first law (entries_of c) (entries_of d) top)), w ∙ ap (stored old 0) zeros ∙ rw e refl)

  -- what is found by the slots is so by the normal form
  pub each-found : {none : Bool} {m : ℕ} (old : List ℕ) {new : List ℕ} → reading_of Description 2 d ≡ Ok m → impossible ≡ false
      → ((ss : List Slot) → Indexed ss t most cells used → (none ≡ eqb (first_from (holds_by_slots b ss (entries_of d)) 1 m) 0)
      × (new ≡ stored old 0 (listed (λ n. bit (not (holds_by_slots b ss (entries_of d) n))) 1 m)))
      → (none ≡ eqb (failing_in b c d) 0) × (new ≡ stored old 0 (failing_bytes b c d))
  unfolding failing_in failing_bytes
  each-found {none} {m} old {new} f z g =
      let T = H.tabled in
      let lives : inconsistent 1 (slots_of b c) 0 ≡ false = sym H.top ∙ z in
      let few : length (slots_of b c) ≤ 1008 = omega (arith, T.counted, T.few) in
      let legal = (sound-of-accepted Description 2 d f).entries in
      let count = (accepted-few 2 d f).0 in
      let found = g (slots_of b c) (record { kept = H.kept; slotted = T.slotted }) in
      let bytes : listed (λ n. bit (not (holds_by_slots b (slots_of b c) (entries_of d) n))) 1 m
      ≡ listed (λ n. bit (not (entry_holds b (normal_of b (entries_of c)) (entries_of d) n))) 1 m
      = listed-same _ _ 1 1 m (λ k h. rw (slots-each law (entries_of c) (entries_of d) few legal lives (1 + k) (omega arith) (omega arith)) refl) in (
        found.0
            ∙ ap (λ (n : ℕ). eqb (first_from (holds_by_slots b (slots_of b c) (entries_of d)) 1 n) 0) count
            ∙ ap (λ (n : ℕ). eqb n 0) (slots-first law (entries_of c) (entries_of d) few legal lives),
        found.1 ∙ ap (stored old 0) bytes ∙ rw count refl,
      )

-- ---- the ways to an answer

module _ (P c d t : List ℕ) where
  abbrev EachAnswers : Result Judgement Refusal → List ℕ → Type 0
  EachAnswers r t' = (r ≡ each_of P c d) × (t' ≡ each_after P c d t)

  stays : {x : Refusal} → each_of P c d ≡ Err x → EachAnswers (Err x) t
  unfolding each_after
  stays e = (sym e, rw e refl)

  pub each-list : {x : Refusal} → pairs_reading P ≡ Err x → EachAnswers (Err x) t
  unfolding each_of
  each-list e = stays (rw (each_of, e) refl)

  module _ {k : ℕ} (l : pairs_reading P ≡ Ok k) where
    pub each-first : {x : Refusal} → reading_of Description 1 c ≡ Err x → EachAnswers (Err x) t
    unfolding each_of
    each-first e = stays (rw (each_of, l, e) refl)

    module _ {n : ℕ} (r : reading_of Description 1 c ≡ Ok n) where
      pub each-second : {x : Refusal} → reading_of Description 2 d ≡ Err x → EachAnswers (Err x) t
      unfolding each_of
      each-second e = stays (rw (each_of, l, r, e) refl)

      pub each-judged : {m : ℕ} {all : Bool} {t' : List ℕ} → reading_of Description 2 d ≡ Ok m → all ≡ eqb (failing_in (under P) c d) 0
          → t' ≡ stored t 0 (failing_bytes (under P) c d) → EachAnswers (Ok (record { entries = m; contained = all })) t'
      unfolding each_of each_after
      each-judged e a w =
          let is : each_of P c d ≡ Ok (record { entries = length (entries_of d); contained = eqb (failing_in (under P) c d) 0 }) = rw (each_of, l, r, e) refl in
          (rw ((accepted-few 2 d e).0, a) (sym is), w ∙ rw (each_after, is) refl)
