-- The narrowest description: the ways of the plain call, and [D8] that answers and written bytes are those for the unfolded descriptions.
-- Assumes nothing.
use Rattle.std.proofs.Common.{◌≡◌, ℕ, ◌*◌, ◌+◌, ◌<◌, ◌≤◌, ◌⊎◌, true, List, [], length, Ok, ⊎_elim, sym, refl, ◌∙◌, ltb, ◌||◌}
use Rattle.answers.proofs.Nameless.{nameless-admitted, nameless-alike}
use Rattle.answers.proofs.Unfolded.{Alike, plain-admitted, sent-alike}
use Rattle.answers.specs.Promise.{Admitted}
use Rattle.base.proofs.Tests.{ge-ltb, lt-ltb, or_left, or_right}
use Rattle.blocks.proofs.Refusing.Readings.{reading-cases}
use Rattle.blocks.specs.Encoding.{blocks_for}
use Rattle.blocks.specs.Frame.{plain}
use Rattle.blocks.specs.Reading.{reading_of}
use Rattle.blocks.specs.Refusals.{refused}
use Rattle.blocks.specs.declared.Cause.TheVariants.{Length, Room}
use Rattle.blocks.specs.declared.Cause.{Cause}
use Rattle.blocks.specs.declared.Schema.TheVariants.{Description}
use Rattle.named.specs.Answer.{narrowed_named, narrowest_named}
use Rattle.names.specs.NamedReading.{dictionary_reading, plain_of, sent_of}
use Rattle.narrow_listed.specs.Listed.{narrowest_under}
use Rattle.narrowest.specs.Answer.{laid, narrowed_of, narrowest_of, narrowest_room}
use Rattle.pairs.specs.Pairs.{pairs_reading}
use Rattle.unfolding.proofs.BufferLaws.{sent-itself}

-- ---- the plain call

module _ (P a b out : List ℕ) where
  -- a refusal leaves the output
  pub refused-stays : {k : Cause} {i p : ℕ} → narrowest_of P a b out ≡ refused k i p → narrowed_of P a b out ≡ out
  unfolding narrowed_of
  refused-stays e = rw e refl

  pub given-laid : {k : ℕ} → narrowest_of P a b out ≡ Ok k → narrowed_of P a b out ≡ laid (narrowest_under P a b) out
  unfolding narrowed_of
  given-laid e = rw e refl

  module _ {j n m : ℕ} (p : pairs_reading P ≡ Ok j) (ra : reading_of Description 1 a ≡ Ok n) (rb : reading_of Description 2 b ≡ Ok m) where
    pub room-decides : narrowest_of P a b out ≡ narrowest_room P a b out
    unfolding narrowest_of
    room-decides = rw (p, ra, rb) refl

    pub plain-large : 8192 < length a + length b → narrowest_of P a b out ≡ refused Length 2 0
    unfolding narrowest_room
    plain-large h = room-decides ∙ rw (lt-ltb h) refl

    module _ (h : length a + length b ≤ 8192) where
      pub plain-short : length out < length a + length b → narrowest_of P a b out ≡ refused Room 0 0
      unfolding narrowest_room
      plain-short s = room-decides ∙ rw (ge-ltb h, lt-ltb s) refl

      pub plain-many : length a + length b ≤ length out
          → (1008 < length (narrowest_under P a b)) ⊎ (length out < 512 * blocks_for plain (length (narrowest_under P a b)))
          → narrowest_of P a b out ≡ refused Room 0 0
      unfolding narrowest_room
      plain-many s m =
          let n = length (narrowest_under P a b) in
          let t : (ltb 1008 n || ltb (length out) (512 * blocks_for plain n)) ≡ true
          = ⊎_elim (λ x. or_left _ (lt-ltb x)) (λ x. or_right (ltb 1008 n) (lt-ltb x)) m in
          room-decides ∙ rw (ge-ltb h, ge-ltb s, t) refl

      pub plain-given : length a + length b ≤ length out → length (narrowest_under P a b) ≤ 1008
          → 512 * blocks_for plain (length (narrowest_under P a b)) ≤ length out → narrowest_of P a b out ≡ Ok (length (narrowest_under P a b))
      unfolding narrowest_room
      plain-given s f g = room-decides ∙ rw (ge-ltb h, ge-ltb s, ge-ltb f, ge-ltb g) refl

-- inputs that are alike are answered alike
pub narrowest-alike : (P out a b a' b' : List ℕ) → Alike a a' → Alike b b'
    → (narrowest_of P a b out ≡ narrowest_of P a' b' out) × (narrowed_of P a b out ≡ narrowed_of P a' b' out)
unfolding narrowest_of narrowed_of narrowest_room
narrowest-alike P out a b a' b' x y =
    let r = x.read 1 in
    let e = x.entries in
    let l = x.size in
    let r' = y.read 2 in
    let e' = y.entries in
    let l' = y.size in
    (rw (r, e, l, r', e', l') refl, rw (r, e, l, r', e', l') refl)

-- ---- with a dictionary

module _ (P D a b out : List ℕ) (A : Admitted D a) (B : Admitted D b) where
  pub narrowest-goes-on : (narrowest_named P D a b out ≡ narrowest_of P (sent_of D a) (sent_of D b) out)
      × (narrowed_named P D a b out ≡ narrowed_of P (sent_of D a) (sent_of D b) out)
  unfolding narrowest_named narrowed_named narrowest_of narrowed_of
  narrowest-goes-on =
      let x = A.read 1 in
      let y = B.read 2 in
      reading-cases (pairs_reading P) (λ k i p e. (rw e, rw e)) (λ n e. (rw (e, x, y), rw (e, x, y)))

  -- by the plain call
  pub narrowest-plain : (narrowest_named P D a b out ≡ narrowest_of P (plain_of D a) (plain_of D b) out)
      × (narrowed_named P D a b out ≡ narrowed_of P (plain_of D a) (plain_of D b) out)
  narrowest-plain =
      let g = narrowest-goes-on in
      let x = narrowest-alike P out (sent_of D a) (sent_of D b) (plain_of D a) (plain_of D b) (sent-alike D a A) (sent-alike D b B) in
      (g.0 ∙ x.0, g.1 ∙ x.1)

-- of descriptions without names, by the plain call for their own bytes
pub narrowest-nameless : (P D a b out : List ℕ) {m : ℕ} → dictionary_reading D ≡ Ok m
    → (i : ℕ) {n : ℕ} → reading_of Description i a ≡ Ok n → (j : ℕ) {l : ℕ} → reading_of Description j b ≡ Ok l
    → (narrowest_named P D a b out ≡ narrowest_of P a b out) × (narrowed_named P D a b out ≡ narrowed_of P a b out)
narrowest-nameless P D a b out q i e j f =
    let g = narrowest-goes-on P D a b out (nameless-admitted D i a q e) (nameless-admitted D j b q f) in
    let x = narrowest-alike P out (sent_of D a) (sent_of D b) a b (nameless-alike D i a q e) (nameless-alike D j b q f) in
    (g.0 ∙ x.0, g.1 ∙ x.1)

-- by the same call
pub narrowest-unfolded : (P D a b out : List ℕ) → Admitted D a → Admitted D b
    → (narrowest_named P D a b out ≡ narrowest_named P [] (plain_of D a) (plain_of D b) out)
    × (narrowed_named P D a b out ≡ narrowed_named P [] (plain_of D a) (plain_of D b) out)
narrowest-unfolded P D a b out A B =
    let named = narrowest-plain P D a b out A B in
    let plain = narrowest-goes-on P [] (plain_of D a) (plain_of D b) out (plain-admitted D a A) (plain-admitted D b B) in
    let first = sent-itself [] (plain_of D a) refl in
    let second = sent-itself [] (plain_of D b) refl in
    (named.0 ∙ sym (plain.0 ∙ rw (first, second)), named.1 ∙ sym (plain.1 ∙ rw (first, second)))
