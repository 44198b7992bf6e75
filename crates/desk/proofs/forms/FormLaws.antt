-- The form of an entry by its words, and what forms say of a whole draft.
use Rattle.std.proofs.Common.{◌≡◌, ◌≢◌, ℕ, ◌+◌, ◌*◌, ◌/◌, ◌<◌, ◌≤◌, Bool, true, false, not, cond, ◌&&◌, ◌||◌, eqb, leb, ltb, List, [], get_or, length, take, drop, below_more, Some, None, refl, sym, ◌∙◌, ap, ◌%◌, arith}
use Rattle.std.proofs.lemmas.List.{get_or-drop, get_or-take}
use Rattle.std.specs.Simd.{first_chunks}
use lib.ListN.{length-map}
use Rattle.base.proofs.RangeLaws.{all-at, all_of}
use Rattle.base.proofs.Tests.{and_zero, bool_cases, both_ways, eq-cases, eq-eqb, false_of_not, ge-ltb, gt-leb, iff-eq, lt-cases, lt-ltb, ne_eqb, neither_left, neither_right, or_cases, tests, true_of_not}
use Rattle.base.specs.Range.{all}
use Rattle.blocks.proofs.Refusing.FirstFault.{clean-none}
use Rattle.blocks.proofs.Refusing.Legal.{none-legal}
use Rattle.blocks.specs.Entries.{entry_from, form_ok, name_ok, number_ok}
use Rattle.blocks.specs.Faults.{entry_faults}
use Rattle.blocks.specs.Words.{word_at}
use Rattle.blocks.specs.code.ReadingSteps.{entry_refusal}
use Rattle.blocks.specs.declared.Cause.TheVariants.{Depth, Owner}
use Rattle.blocks.specs.declared.Entry.{Entry}
use Rattle.blocks.specs.declared.Schema.TheVariants.{Description}
use Rattle.drafts.proofs.DraftedLaws.{entries_in, nth-row}
use Rattle.drafts.proofs.GivenExactly.{clean-is}
use Rattle.drafts.specs.Sound.{drafted}

-- ---- the form by words

-- the test of the three words: kind with the zero byte, name, and number
abbrev pub words_ok : ℕ → ℕ → ℕ → Bool
words_ok sort name number =
    (ltb 0 sort && leb sort 6)
    && (((not (eqb sort 6) || eqb name 0) && (eqb sort 6 || not (eqb name 0))) && (eqb sort 3 || (eqb sort 4 || eqb number 0)))

-- the same tests in the order of the table
same_test : (range six none three four zero : Bool)
    → range && (((not six || none) && (six || not none)) && (three || (four || zero))) ≡ range && (cond six none (not none || false) && ((three || (four || false)) || zero))
same_test false six none three four zero = refl
same_test true true false three four zero = refl
same_test true false true three four zero = refl
same_test true true true true four zero = refl
same_test true true true false true zero = refl
same_test true true true false false zero = refl
same_test true false false true four zero = refl
same_test true false false false true zero = refl
same_test true false false false false zero = refl

named : (n : ℕ) → not (eqb n 0) ≡ ltb 0 n
named n = eq-cases n 0 (λ z. rw (eq-eqb z, ge-ltb {m = 0} {n = n} (omega (arith, z)))) (λ z. rw (ne_eqb z, lt-ltb {m = 0} {n = n} (omega (arith, z))))

module _ (e : Entry) where
  low-form : e.reserved ≡ 0 → words_ok e.kind e.name e.number ≡ form_ok Description e
  unfolding form_ok name_ok number_ok
  low-form z =
      lt-cases 6 e.kind
      (λ h. rw (gt-leb h, and_zero (ltb 0 e.kind)))
      (λ h.
      let seven : eqb e.kind 7 ≡ false = ne_eqb (omega (arith, h)) in
      let nine : eqb e.kind 9 ≡ false = ne_eqb (omega (arith, h)) in
      same_test (ltb 0 e.kind && leb e.kind 6) (eqb e.kind 6) (eqb e.name 0) (eqb e.kind 3) (eqb e.kind 4) (eqb e.number 0)
      ∙ rw (form_ok, name_ok, number_ok, eq-eqb z, seven, nine, named e.name) refl)

  high-form : (sort : ℕ) → 6 < sort → e.reserved ≢ 0 → words_ok sort e.name e.number ≡ form_ok Description e
  unfolding form_ok
  high-form sort h z =
      rw (form_ok, gt-leb h, and_zero (ltb 0 sort), ne_eqb z) (sym (and_zero (ltb 0 e.kind && leb e.kind 6)))

  pub form-by : (sort : ℕ) → e.kind < 256 → sort ≡ e.kind + 256 * e.reserved → words_ok sort e.name e.number ≡ form_ok Description e
  form-by sort small s =
      eq-cases e.reserved 0
      (λ z. let k : sort ≡ e.kind = omega (arith, s, z) in rw k (low-form z))
      (λ z. high-form sort (omega (arith, s, z)) z)

-- ---- the halves of 8 bytes

-- the same test of words that are moved above 16 zero bits, as the code has it
abbrev pub halves_ok : ℕ → ℕ → ℕ → Bool
halves_ok sort name tail =
    (ltb 0 sort && leb sort 393216)
    && (((not (eqb sort 393216) || eqb name 0) && (eqb sort 393216 || not (eqb name 0))) && (eqb sort 196608 || (eqb sort 262144 || ltb tail 65536)))

halves-by : {sort name tail : ℕ} (s n m : ℕ) → sort ≡ 65536 * s → name ≡ 65536 * n → tail ≡ n + 65536 * m → n < 65536
    → halves_ok sort name tail ≡ words_ok s n m
halves-by {sort} {name} {tail} s n m e f g h =
    let some : ltb 0 sort ≡ ltb 0 s = iff-eq (λ q. omega (tests, e, q)) (λ q. omega (tests, e, q)) in
    let few : leb sort 393216 ≡ leb s 6 = iff-eq (λ q. omega (tests, e, q)) (λ q. omega (tests, e, q)) in
    let six : eqb sort 393216 ≡ eqb s 6 = iff-eq (λ q. omega (tests, e, q)) (λ q. omega (tests, e, q)) in
    let three : eqb sort 196608 ≡ eqb s 3 = iff-eq (λ q. omega (tests, e, q)) (λ q. omega (tests, e, q)) in
    let four : eqb sort 262144 ≡ eqb s 4 = iff-eq (λ q. omega (tests, e, q)) (λ q. omega (tests, e, q)) in
    let none : eqb name 0 ≡ eqb n 0 = iff-eq (λ q. omega (tests, f, q)) (λ q. omega (tests, f, q)) in
    let zero : ltb tail 65536 ≡ eqb m 0 = iff-eq (λ q. omega (tests, g, h, q)) (λ q. omega (tests, g, h, q)) in
    rw (some, few, six, three, four, none, zero)

byte-in : (xs : List ℕ) (n i : ℕ) → i < 4 → get_or (take 4 (drop n xs)) i 0 ≡ get_or xs (n + i) 0
byte-in xs n i h = get_or-take 4 (drop n xs) i 0 h ∙ get_or-drop n xs i 0

-- four bytes as a number, low byte first
abbrev pub half_of : List ℕ → ℕ
half_of b = get_or b 0 0 + 256 * get_or b 1 0 + 65536 * get_or b 2 0 + 16777216 * get_or b 3 0

module _ (xs : List ℕ) (eight : length xs ≡ 8) (small : (i : ℕ) → get_or xs i 0 < 256) {hs : List (List ℕ)} (w : hs ≡ first_chunks 4 (length xs / 4) xs) where
  two : hs ≡ first_chunks 4 2 xs
  two = let h : length xs / 4 ≡ 2 = omega (arith, eight) in w ∙ ap (λ (n : ℕ). first_chunks 4 n xs) h

  head-is : half_of (get_or hs 0 []) ≡ get_or xs 0 0 + 256 * get_or xs 1 0 + 65536 * get_or xs 2 0 + 16777216 * get_or xs 3 0
  head-is = rw two (rw (byte-in xs 0 0 (omega arith), byte-in xs 0 1 (omega arith), byte-in xs 0 2 (omega arith), byte-in xs 0 3 (omega arith)))

  tail-is : half_of (get_or hs 1 []) ≡ get_or xs 4 0 + 256 * get_or xs 5 0 + 65536 * get_or xs 6 0 + 16777216 * get_or xs 7 0
  tail-is = rw two (rw (byte-in xs 4 0 (omega arith), byte-in xs 4 1 (omega arith), byte-in xs 4 2 (omega arith), byte-in xs 4 3 (omega arith)))

  pub form-by-halves : {head tail sort name : ℕ} → head ≡ half_of (get_or hs 0 []) → tail ≡ half_of (get_or hs 1 [])
      → sort ≡ head * 65536 % 4294967296 → name ≡ tail * 65536 % 4294967296 → halves_ok sort name tail ≡ form_ok Description (entry_from xs 0)
  unfolding entry_from word_at
  form-by-halves {head} {tail} {sort} {name} h t s n =
      let kind : ℕ = get_or xs 0 0 + 256 * get_or xs 1 0 in
      let named : ℕ = get_or xs 4 0 + 256 * get_or xs 5 0 in
      let number : ℕ = get_or xs 6 0 + 256 * get_or xs 7 0 in
      let b0 = small 0 in
      let b1 = small 1 in
      let b4 = small 4 in
      let b5 = small 5 in
      let h' = h ∙ head-is in
      let t' = t ∙ tail-is in
      let p : sort ≡ 65536 * (get_or xs 0 0 + 256 * get_or xs 1 0) = omega (arith, s, h', b0, b1) in
      let q : name ≡ 65536 * (get_or xs 4 0 + 256 * get_or xs 5 0) = omega (arith, n, t', b4, b5) in
      let r : tail ≡ get_or xs 4 0 + 256 * get_or xs 5 0 + 65536 * (get_or xs 6 0 + 256 * get_or xs 7 0) = omega (arith, t') in
      halves-by kind named number p q r (omega (arith, b4, b5)) ∙ form-by (entry_from xs 0) kind b0 refl

-- ---- all forms

abbrev pub forms : List (List ℕ) → Bool
forms rows = all (λ k. form_ok Description (entry_from (get_or rows k []) 0)) 0 (length rows)

pub form-at : (rows : List (List ℕ)) → forms rows ≡ true → (k : ℕ) → k < length rows → form_ok Description (entry_from (get_or rows k []) 0) ≡ true
form-at rows h k l = all-at (λ k. form_ok Description (entry_from (get_or rows k []) 0)) 0 (length rows) h k (omega arith) (omega arith)

-- what was found of the first i forms
pub record Seen (rows : List (List ℕ)) (wrong : Bool) (i : ℕ) : Type 0 where
  pub right : wrong ≡ false → (k : ℕ) → k < i → form_ok Description (entry_from (get_or rows k []) 0) ≡ true
  pub bad : wrong ≡ true → forms rows ≡ false

pub seen-start : (rows : List (List ℕ)) → Seen rows false 0
seen-start rows = record { right = λ z k h. absurd (omega (arith, h)); bad = λ z. both_ways z refl }

module _ (rows : List (List ℕ)) (wrong : Bool) (i : ℕ) (S : Seen rows wrong i) where
  pub seen-more : {v : Bool} → i < length rows → v ≡ form_ok Description (entry_from (get_or rows i []) 0) → Seen rows (wrong || not v) (i + 1)
  seen-more {v} h e =
      record {
        right = λ z. below_more (λ k. form_ok Description (entry_from (get_or rows k []) 0) ≡ true) i (S.right (neither_left wrong (not v) z))
            (sym e ∙ true_of_not v (neither_right wrong (not v) z));
        bad = λ z. or_cases wrong (not v) z S.bad
            (λ q. bool_cases (forms rows) (λ f. both_ways (e ∙ form-at rows f i h) (false_of_not v q)) (λ f. f));
      }

  pub seen-all : length rows ≤ i → not wrong ≡ forms rows
  seen-all h =
      bool_cases wrong
      (λ z. rw z (sym (S.bad z)))
      (λ z. rw z (sym (all_of (λ k. form_ok Description (entry_from (get_or rows k []) 0)) 0 (length rows) (λ k lo hi. S.right z k (omega (arith, h, hi))))))

drafted-forms : (rows : List (List ℕ)) → drafted (entries_in rows) ≡ true → forms rows ≡ true
unfolding drafted
drafted-forms rows h =
    let L = none-legal (clean-none (entry_faults Description (entries_in rows) 1 (length (entries_in rows))) (clean-is _ h)) in
    let n = length-map rows (λ b. entry_from b 0) in
    all_of (λ k. form_ok Description (entry_from (get_or rows k []) 0)) 0 (length rows)
    (λ k lo hi. rw (nth-row rows k (omega arith)) (L.form (k + 1) (omega arith) (omega (arith, n))))

pub formless : (rows : List (List ℕ)) → forms rows ≡ false → false ≡ drafted (entries_in rows)
formless rows h =
    bool_cases (drafted (entries_in rows))
    (λ q. both_ways (drafted-forms rows q) h)
    (λ q. sym q)

-- ---- an entry of a right form is refused for its owner alone

module _ (e : Entry) {l : ℕ} (ok : form_ok Description e ≡ true) where
  pub no-owner : l ≡ 0 → entry_refusal Description e l ≡ Some Owner
  unfolding entry_refusal
  no-owner z = rw (entry_refusal, ok, eq-eqb z)

  pub too-deep : l ≢ 0 → 33 < l → entry_refusal Description e l ≡ Some Depth
  unfolding entry_refusal
  too-deep z h = rw (entry_refusal, ok, ne_eqb z, lt-ltb h)

  pub not-refused : l ≢ 0 → l ≤ 33 → entry_refusal Description e l ≡ None
  unfolding entry_refusal
  not-refused z h = rw (entry_refusal, ok, ne_eqb z, ge-ltb h)
