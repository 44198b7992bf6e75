-- With a dictionary that is not of length 0: the answers for what is unfolded, from the buffers that it stands in.
-- Assumes nothing.
use Prim.Native.Nat.{◌%◌, ◌*◌, ◌+◌, ◌<◌, ◌≤◌, ℕ}
use lib.Dec.{eqb, ltb}
use lib.ListN.{length, take}
use mathlib.Core.Bool.{Bool, false}
use mathlib.Core.List.{List, [], ◌++◌, ◌∷◌}
use mathlib.Core.Path.{◌∙◌, ◌≡◌, ap, sym}
use native.Mathlib.Omega.{arith}
use Rattle.base.proofs.Tests.{bool_cases, eqb-ne}
use Rattle.blocks.proofs.Refusing.Readings.{reading-cases, refused-finding}
use Rattle.blocks.specs.Encoding.{blocks_for}
use Rattle.blocks.specs.Entries.{entries_of}
use Rattle.blocks.specs.Faults.{first}
use Rattle.blocks.specs.Frame.{plain, total_in}
use Rattle.blocks.specs.Refusals.{unless_refused, refusal, refused}
use Rattle.blocks.specs.declared.Entry.{Entry}
use Rattle.std.specs.Prelude.{Err, Ok}
use Rattle.blocks.specs.Reading.{Reading}
use Rattle.blocks.specs.declared.Refusal.{Refusal}
use Rattle.clashes.specs.Clash.{specimen_reading}
use Rattle.compare.specs.Answer.{compare_of, output_of}
use Rattle.fit.specs.Answer.{fit_of}
use Rattle.lists.specs.Parts.{parts_of}
use Rattle.named.specs.Answer.{compare_named, fit_named, normalise_named, normalised_named, output_named}
use Rattle.named.specs.code.Sent.{ListTaken}
use Rattle.names.specs.NamedReading.{dictionary_of, dictionary_reading, named_faults, named_reading, named_unfolding, parts_reading, plain_of, unfolding_of}
use Rattle.names.specs.Unfold.{unfolded_by}
use Rattle.normal.specs.Answer.{normalise_of, normalised_of}
use Rattle.pairs.specs.Pairs.{pairs_reading}
use Rattle.unfolding.proofs.BufferLaws.{at-buffer, buffer-ends, buffer-plain, sent-plain}
use Rattle.unfolding.specs.Answer.{Unfolded, both_by, both_of, second_after, unfolded_at}
use Rattle.blocks.specs.declared.Cause.{Cause}
use Rattle.blocks.specs.declared.Cause.TheVariants.{Count, Length}

-- ---- a list that is accepted, and a dictionary

-- a dictionary that is not of length 0, under a list that is accepted: what the calls go on with
pub goes-on : (P D : List ℕ) {b : Bool} {r : Reading} {n : ℕ}
    → b ≡ eqb (length D) 0 → b ≡ false → r ≡ pairs_reading P → r ≡ Ok n → (0 < length D) × ListTaken P
goes-on P D e f p t = (omega (arith, eqb-ne (sym e ∙ f)), record { count = _; taken = sym p ∙ t })

-- ---- what stands in a buffer

module _ (D : List ℕ) (i : ℕ) (s : List ℕ) {n : ℕ} (e : unfolding_of D i s ≡ Ok n) (buffer : List ℕ) (h : 8192 ≤ length buffer)
    {after : List ℕ} {k : ℕ} (q : after ≡ unfolded_at D i s buffer) (g : k ≡ 512 * blocks_for plain n) where
  -- the bytes of so many entries are the plain description
  pub part-plain : take k after ≡ plain_of D s
  part-plain = rw g (buffer-plain D i s e buffer h q)

  -- and they end within the buffer
  pub part-ends : k ≤ length after
  part-ends = rw g (buffer-ends D i s e buffer h q)

-- ---- the normal form

module _ (P D : List ℕ) (some : 0 < length D) (T : ListTaken P) (d out : List ℕ) where
  pub normal-refused : {x : Refusal} → unfolding_of D 1 d ≡ Err x → (Err x ≡ normalise_named P D d out) × (out ≡ normalised_named P D d out)
  unfolding normalise_named normalised_named
  normal-refused e = let t = T.taken in (rw (t, e), rw (t, e))

  pub normal-goes : {n : ℕ} → unfolding_of D 1 d ≡ Ok n
      → (normalise_of P (plain_of D d) out ≡ normalise_named P D d out) × (normalised_of P (plain_of D d) out ≡ normalised_named P D d out)
  unfolding normalise_named normalised_named
  normal-goes e = let t = T.taken in let x = sent-plain D d some in (rw (t, e, x), rw (t, e, x))

-- where the list is refused
pub normal-list : (P D d out : List ℕ) {x : Refusal} → pairs_reading P ≡ Err x
    → (Err x ≡ normalise_named P D d out) × (out ≡ normalised_named P D d out)
unfolding normalise_named normalised_named
normal-list P D d out e = (rw e, rw e)

-- ---- the comparison

module _ (P D : List ℕ) (some : 0 < length D) (T : ListTaken P) (c d out : List ℕ) where
  pub comparison-refused : {x : Refusal} → both_by (unfolding_of D 1 c) (unfolding_of D 2 d) ≡ Err x
      → (Err x ≡ compare_named P D c d out) × (out ≡ output_named P D c d out)
  unfolding compare_named output_named
  comparison-refused {x} e =
      let t = T.taken in
      reading-cases (unfolding_of D 1 c)
      (λ k i p f. let z : ◌≡◌ {A = Unfolded} (refused k i p) (Err x) = rw f at e in
      let g : x ≡ refusal k i p = cc in (rw (t, f, g), rw (t, f)))
      (λ n f. reading-cases (unfolding_of D 2 d)
      (λ k i p h. let z : ◌≡◌ {A = Unfolded} (refused k i p) (Err x) = rw (f, h) at e in
      let g : x ≡ refusal k i p = cc in (rw (t, f, h, g), rw (t, f, h)))
      (λ m h. let z : ◌≡◌ {A = Unfolded} (Ok (n, m)) (Err x) = rw (f, h) at e in let y : ◌≡◌ {A = ℕ} 0 1 = cc in absurd (omega arith)))

  pub comparison-goes : {n m : ℕ} → unfolding_of D 1 c ≡ Ok n → unfolding_of D 2 d ≡ Ok m
      → (compare_of P (plain_of D c) (plain_of D d) out ≡ compare_named P D c d out)
      × (output_of P (plain_of D c) (plain_of D d) out ≡ output_named P D c d out)
  unfolding compare_named output_named
  comparison-goes e f = let t = T.taken in let x = sent-plain D c some in let y = sent-plain D d some in (rw (t, e, f, x, y), rw (t, e, f, x, y))

-- what is answered for two buffers
module _ (D c d : List ℕ) where
  -- both are accepted
  both-taken : {n m : ℕ} → both_by (unfolding_of D 1 c) (unfolding_of D 2 d) ≡ Ok (n, m) → (unfolding_of D 1 c ≡ Ok n) × (unfolding_of D 2 d ≡ Ok m)
  both-taken {n} {m} e =
      reading-cases (unfolding_of D 1 c)
      (λ k i p f. let z : ◌≡◌ {A = Unfolded} (refused k i p) (Ok (n, m)) = rw f at e in let y : ◌≡◌ {A = ℕ} 0 1 = cc in absurd (omega arith))
      (λ n' f. reading-cases (unfolding_of D 2 d)
      (λ k i p h. let z : ◌≡◌ {A = Unfolded} (refused k i p) (Ok (n, m)) = rw (f, h) at e in let y : ◌≡◌ {A = ℕ} 0 1 = cc in absurd (omega arith))
      (λ m' h. let z : ◌≡◌ {A = Unfolded} (Ok (n', m')) (Ok (n, m)) = rw (f, h) at e in
      let q : ◌≡◌ {A = ℕ × ℕ} (n', m') (n, m) = cc in
      (f ∙ ap (λ (r : ℕ × ℕ). Ok r.0) q, h ∙ ap (λ (r : ℕ × ℕ). Ok r.1) q)))

  module _ (a b : List ℕ) (ha : 8192 ≤ length a) (hb : 8192 ≤ length b) where
    pub both-buffers : both_of D c d a b ≡ both_by (unfolding_of D 1 c) (unfolding_of D 2 d)
    unfolding both_of
    both-buffers = rw (at-buffer D 1 c a ha, at-buffer D 2 d b hb)

    -- what the second has where the first is accepted
    second_is : {n : ℕ} → unfolding_of D 1 c ≡ Ok n → second_after D c d a b ≡ unfolded_at D 2 d b
    unfolding second_after
    second_is e = rw (at-buffer D 1 c a ha, e)

    module _ {r : Unfolded} {a' b' : List ℕ} (q : r ≡ both_of D c d a b) (qa : a' ≡ unfolded_at D 1 c a) (qb : b' ≡ second_after D c d a b)
        {n m : ℕ} (t : r ≡ Ok (n, m)) where
      pub both-unfolded : (unfolding_of D 1 c ≡ Ok n) × (unfolding_of D 2 d ≡ Ok m)
      both-unfolded = both-taken (sym both-buffers ∙ sym q ∙ t)

      -- they hold the plain descriptions, which end within them
      pub first_part_lem : {k : ℕ} → k ≡ 512 * blocks_for plain n → (take k a' ≡ plain_of D c) × (k ≤ length a')
      first_part_lem g = let e = both-unfolded.0 in (part-plain D 1 c e a ha qa g, part-ends D 1 c e a ha qa g)

      pub second-part : {k : ℕ} → k ≡ 512 * blocks_for plain m → (take k b' ≡ plain_of D d) × (k ≤ length b')
      second-part g =
          let e = both-unfolded in
          let y = qb ∙ second_is e.0 in
          (part-plain D 2 d e.1 b hb y g, part-ends D 2 d e.1 b hb y g)

pub comparison-list : (P D c d out : List ℕ) {x : Refusal} → pairs_reading P ≡ Err x
    → (Err x ≡ compare_named P D c d out) × (out ≡ output_named P D c d out)
unfolding compare_named output_named
comparison-list P D c d out e = (rw e, rw e)

-- ---- the fit answer

-- a dictionary is refused as input 100 or later
named-input : (K : List (List Entry)) (i : ℕ) (s : List ℕ) {k : Cause} {j p : ℕ} → named_reading K i s ≡ refused k j p → j ≡ i
unfolding named_reading
named-input K i s e = (refused-finding i (total_in plain s) (first (named_faults K s)) e).0

parts-input : (K : List (List Entry)) (ss : List (List ℕ)) {k : Cause} {j p : ℕ} → parts_reading K ss ≡ refused k j p → 100 ≤ j
unfolding parts_reading
parts-input K [] e = let y : ◌≡◌ {A = ℕ} 0 1 = cc in absurd (omega arith)
parts-input K (s ∷ ss) {k} {j} {p} e =
    reading-cases (named_reading K (101 + length K) s)
    (λ k' j' p' f.
    let z : ◌≡◌ {A = Reading} (refused k' j' p') (refused k j p) = rw f at e in
    let g : refusal k j p ≡ refusal k' j' p' = cc in
    let a : j ≡ j' = ap (λ (r : Refusal). r.input) g in
    omega (arith, named-input K (101 + length K) s f))
    (λ n f. parts-input (K ++ (entries_of s ∷ [])) ss (rw f at e))

pub dictionary-input : (D : List ℕ) {k : Cause} {j p : ℕ} → dictionary_reading D ≡ refused k j p → 100 ≤ j
unfolding dictionary_reading
dictionary-input D {k} {j} {p} e =
    bool_cases (eqb (length D % 512) 0)
    (λ q. bool_cases (ltb 64 (length (parts_of D)))
    (λ w. let z : ◌≡◌ {A = Reading} (refused Count 100 0) (refused k j p) = rw (q, w) at e in
    let g : refusal k j p ≡ refusal Count 100 0 = cc in
    let a : j ≡ 100 = ap (λ (r : Refusal). r.input) g in
    omega arith)
    (λ w. parts-input [] (parts_of D) (rw (q, w) at e)))
    (λ q. let z : ◌≡◌ {A = Reading} (refused Length 100 0) (refused k j p) = rw q at e in
    let g : refusal k j p ≡ refusal Length 100 0 = cc in
    let a : j ≡ 100 = ap (λ (r : Refusal). r.input) g in
    omega arith)

module _ (P D : List ℕ) (some : 0 < length D) (T : ListTaken P) (s d : List ℕ) where
  -- the dictionary is refused, or the description is
  pub fit-early : {x : Refusal} → unfolding_of D 2 d ≡ Err x → 100 ≤ x.input → Err x ≡ fit_named P D s d
  unfolding fit_named unfolding_of named_unfolding
  fit-early {x} e h =
      let t = T.taken in
      reading-cases (dictionary_reading D)
      (λ k i p f. let z : ◌≡◌ {A = Reading} (refused k i p) (Err x) = rw f at e in let g : x ≡ refusal k i p = cc in rw (t, f, g))
      (λ m f. reading-cases (named_reading (dictionary_of D) 2 d)
      (λ k i p w. let z : ◌≡◌ {A = Reading} (refused k i p) (Err x) = rw (f, w) at e in
      let g : x ≡ refusal k i p = cc in
      let b : x.input ≡ i = ap (λ (r : Refusal). r.input) g in
      absurd (omega (arith, named-input (dictionary_of D) 2 d w)))
      (λ n w. let z : ◌≡◌ {A = Reading} (Ok (length (unfolded_by (dictionary_of D) (entries_of d)))) (Err x) = rw (f, w) at e in
      let y : ◌≡◌ {A = ℕ} 0 1 = cc in
      absurd (omega arith)))

  pub fit-late : {x : Refusal} → unfolding_of D 2 d ≡ Err x → x.input < 100 → unless_refused Err (specimen_reading P s) (Err x) ≡ fit_named P D s d
  unfolding fit_named unfolding_of
  fit-late {x} e h =
      let t = T.taken in
      reading-cases (dictionary_reading D)
      (λ k i p f. let z : ◌≡◌ {A = Reading} (refused k i p) (Err x) = rw f at e in
      let g : x ≡ refusal k i p = cc in
      let b : x.input ≡ i = ap (λ (r : Refusal). r.input) g in
      absurd (omega (arith, dictionary-input D f)))
      (λ m f. let u : named_unfolding (dictionary_of D) 2 d ≡ Err x = rw f at e in rw (t, f, u))

  pub fit-goes : {n : ℕ} → unfolding_of D 2 d ≡ Ok n → fit_of P s (plain_of D d) ≡ fit_named P D s d
  unfolding fit_named fit_of unfolding_of
  fit-goes {n} e =
      let t = T.taken in
      let x = sent-plain D d some in
      reading-cases (dictionary_reading D)
      (λ k i p f. let z : ◌≡◌ {A = Reading} (refused k i p) (Ok n) = rw f at e in let y : ◌≡◌ {A = ℕ} 0 1 = cc in absurd (omega arith))
      (λ m f.
      let u : named_unfolding (dictionary_of D) 2 d ≡ Ok n = rw f at e in
      reading-cases (specimen_reading P s)
      (λ k i p g. rw (t, f, g))
      (λ k g. rw (t, f, g, u, x)))

pub fit-list : (P D s d : List ℕ) {x : Refusal} → pairs_reading P ≡ Err x → Err x ≡ fit_named P D s d
unfolding fit_named
fit-list P D s d e = rw e
