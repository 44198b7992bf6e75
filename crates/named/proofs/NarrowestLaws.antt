-- The narrowest description: the answer with a dictionary of length 0, by that of the plain call; and with any other, for what is unfolded.
-- Assumes nothing.
use Prim.Native.Nat.{◌+◌, ◌<◌, ℕ}
use lib.Dec.{ltb}
use lib.ListN.{length}
use mathlib.Core.List.{List, []}
use mathlib.Core.Path.{◌≡◌, refl, sym}
use native.Mathlib.Omega.{arith}
use Rattle.base.proofs.Tests.{bool_cases}
use Rattle.blocks.proofs.Refusing.Readings.{reading-cases}
use Rattle.blocks.proofs.RoundTrip.RefusalNumbers.{reading-number}
use Rattle.blocks.specs.Reading.{Reading, reading_of}
use Rattle.blocks.specs.Refusals.{refusal, refused}
use Rattle.blocks.specs.declared.Refusal.{Refusal}
use Rattle.blocks.specs.declared.Schema.TheVariants.{Description}
use Rattle.named.proofs.SentLaws.{list-input, none-given, sent-accepted, sent-refused}
use Rattle.named.specs.Answer.{narrowed_named, narrowest_named}
use Rattle.named.specs.code.Sent.{ListTaken, sent_as, sent_by}
use Rattle.names.specs.NamedReading.{cause_at, plain_of, unfolding_of}
use Rattle.narrow_listed.specs.Listed.{narrowest_under}
use Rattle.narrowest.specs.Answer.{above_sixteen, narrowed_of, narrowest_of, narrowest_room, too_many}
use Rattle.pairs.specs.Pairs.{pairs_reading}
use Rattle.std.specs.Prelude.{Err, Ok}
use Rattle.unfolding.proofs.BufferLaws.{sent-itself, sent-plain}
use Rattle.unfolding.specs.Answer.{Unfolded, both_by}

-- ---- no dictionary

pub narrowest-none : (P D : List ℕ) → length D ≡ 0 → (a b out : List ℕ) {r : Reading} {o : List ℕ}
    → (r ≡ narrowest_named P [] a b out) × (o ≡ narrowed_named P [] a b out) → (r ≡ narrowest_named P D a b out) × (o ≡ narrowed_named P D a b out)
narrowest-none P D z a b out {r} {o} h = none-given (λ (K : List ℕ). (r ≡ narrowest_named P K a b out) × (o ≡ narrowed_named P K a b out)) D z h

-- input 1, and then input 2
abbrev pub narrowest_by : List ℕ → List ℕ → Reading → Reading
narrowest_by a b r = sent_by b 2 (sent_by a 1 r)

module _ (P a b out : List ℕ) where
  -- 1 at input 2 for the blocks of both stays, for it is no 4; 7 stays, and so does a number of entries
  room-stays : narrowest_by a b (narrowest_room P a b out) ≡ narrowest_room P a b out
  unfolding narrowest_room sent_as cause_at
  room-stays =
      bool_cases (above_sixteen a b)
      (λ q. rw q)
      (λ q. bool_cases (ltb (length out) (length a + length b))
      (λ z. rw (q, z))
      (λ z. bool_cases (too_many out (length (narrowest_under P a b))) (λ y. rw (q, z, y)) (λ y. rw (q, z, y))))

  pub narrowest-sent : (narrowest_named P [] a b out ≡ narrowest_by a b (narrowest_of P a b out))
      × (narrowed_named P [] a b out ≡ narrowed_of P a b out)
  unfolding narrowest_named narrowed_named narrowest_of narrowed_of sent_as
  narrowest-sent =
      reading-cases (pairs_reading P)
      (λ k i p e. let z = list-input P e in (rw (e, z), rw e))
      (λ m e. reading-cases (reading_of Description 1 a)
      (λ k i p f.
      let one = (reading-number Description 1 a f).1 in
      let u = sent-refused 1 a f in
      (rw (e, u, f, one), rw (e, u, f)))
      (λ n f.
      let u = sent-accepted 1 a f in
      reading-cases (reading_of Description 2 b)
      (λ k i p g.
      let two = (reading-number Description 2 b g).1 in
      let v = sent-refused 2 b g in
      (rw (e, u, v, f, g, two), rw (e, u, v, f, g)))
      (λ l g.
      let v = sent-accepted 2 b g in (
        rw (e, u, v, sent-itself [] a refl, sent-itself [] b refl, f, g) (sym room-stays),
        rw (e, u, v, sent-itself [] a refl, sent-itself [] b refl, f, g),
      ))))

-- ---- any other dictionary

module _ (P D : List ℕ) (some : 0 < length D) (T : ListTaken P) (a b out : List ℕ) where
  pub narrowest-refused : {x : Refusal} → both_by (unfolding_of D 1 a) (unfolding_of D 2 b) ≡ Err x
      → (Err x ≡ narrowest_named P D a b out) × (out ≡ narrowed_named P D a b out)
  unfolding narrowest_named narrowed_named
  narrowest-refused {x} e =
      let t = T.taken in
      reading-cases (unfolding_of D 1 a)
      (λ k i p f. let z : ◌≡◌ {A = Unfolded} (refused k i p) (Err x) = rw f at e in
      let g : x ≡ refusal k i p = cc in (rw (t, f, g), rw (t, f)))
      (λ n f. reading-cases (unfolding_of D 2 b)
      (λ k i p h. let z : ◌≡◌ {A = Unfolded} (refused k i p) (Err x) = rw (f, h) at e in
      let g : x ≡ refusal k i p = cc in (rw (t, f, h, g), rw (t, f, h)))
      (λ m h. let z : ◌≡◌ {A = Unfolded} (Ok (n, m)) (Err x) = rw (f, h) at e in let y : ◌≡◌ {A = ℕ} 0 1 = cc in absurd (omega arith)))

  pub narrowest-goes : {n m : ℕ} → unfolding_of D 1 a ≡ Ok n → unfolding_of D 2 b ≡ Ok m
      → (narrowest_of P (plain_of D a) (plain_of D b) out ≡ narrowest_named P D a b out)
      × (narrowed_of P (plain_of D a) (plain_of D b) out ≡ narrowed_named P D a b out)
  unfolding narrowest_named narrowed_named
  narrowest-goes e f = let t = T.taken in let x = sent-plain D a some in let y = sent-plain D b some in (rw (t, e, f, x, y), rw (t, e, f, x, y))

pub narrowest-list : (P D a b out : List ℕ) {x : Refusal} → pairs_reading P ≡ Err x
    → (Err x ≡ narrowest_named P D a b out) × (out ≡ narrowed_named P D a b out)
unfolding narrowest_named narrowed_named
narrowest-list P D a b out e = (rw e, rw e)
