-- What stands in a buffer of 16 blocks that a description was unfolded to, and what a call goes on with.
-- Assumes nothing.
use Prim.Native.Nat.{◌*◌, ◌<◌, ◌≤◌, ℕ}
use lib.Dec.{eqb}
use lib.ListN.{drop, length, length-append, take}
use lib.Seq.{take_at}
use mathlib.Core.Bool.{false, true}
use mathlib.Core.List.{List}
use mathlib.Core.Path.{◌∙◌, ◌≡◌, ap, sym}
use native.Mathlib.Omega.{arith}
use Rattle.base.proofs.Tests.{ge-ltb, tests}
use Rattle.blocks.proofs.Refusing.Readings.{reading-cases}
use Rattle.blocks.proofs.RoundTrip.Decoding.{length-encode}
use Rattle.blocks.specs.Encoding.{blocks_for, encode}
use Rattle.blocks.specs.Entries.{entries_of}
use Rattle.blocks.specs.Frame.{plain}
use Rattle.std.specs.Prelude.{Ok}
use Rattle.names.proofs.Legality.AcceptedReadings.{sent-count, sent-legal}
use Rattle.names.specs.NamedReading.{dictionary_of, plain_of, sent_of, unfolding_of}
use Rattle.names.specs.Unfold.{unfolded_by}
use Rattle.unfolding.specs.Answer.{unfold_at, unfolded_at}

-- ---- what a call goes on with

pub sent-itself : (D s : List ℕ) → length D ≡ 0 → sent_of D s ≡ s
unfolding sent_of
sent-itself D s h = let z : eqb (length D) 0 ≡ true = omega tests in rw z

pub sent-plain : (D s : List ℕ) → 0 < length D → sent_of D s ≡ plain_of D s
unfolding sent_of
sent-plain D s h = let z : eqb (length D) 0 ≡ false = omega tests in rw z

-- ---- what stands in a buffer

-- 16 blocks have room for 1,008 entries
pub blocks-room : (n : ℕ) → n ≤ 1008 → 512 * blocks_for plain n ≤ 8192
unfolding blocks_for
blocks-room n h = omega arith

module _ (D : List ℕ) (i : ℕ) (s : List ℕ) {n : ℕ} (e : unfolding_of D i s ≡ Ok n) where
  pub unfolded-few : n ≤ 1008
  unfolded-few = omega (arith, sent-count D i s e, (sent-legal D i s e).small.size)

  -- a buffer of 16 blocks is never too short
  room : (buffer : List ℕ) → 8192 ≤ length buffer → 512 * blocks_for plain n ≤ length buffer
  room buffer h = omega (arith, blocks-room n unfolded-few)

  -- the plain description takes as many bytes as its blocks have
  plain_size : length (encode (unfolded_by (dictionary_of D) (entries_of s))) ≡ 512 * blocks_for plain n
  plain_size = length-encode (unfolded_by (dictionary_of D) (entries_of s)) ∙ ap (λ (k : ℕ). 512 * blocks_for plain k) (sym (sent-count D i s e))

  -- the blocks of so many entries are the plain description
  pub buffer-plain : (buffer : List ℕ) → 8192 ≤ length buffer → {after : List ℕ} → after ≡ unfolded_at D i s buffer → take (512 * blocks_for plain n) after ≡ plain_of D s
  unfolding unfold_at unfolded_at plain_of
  buffer-plain buffer h q =
      let es = unfolded_by (dictionary_of D) (entries_of s) in
      rw (q, e, ge-ltb (room buffer h)) (take_at (encode es) (drop (length (encode es)) buffer) (512 * blocks_for plain n) plain_size)

  -- and they end within the buffer
  pub buffer-ends : (buffer : List ℕ) → 8192 ≤ length buffer → {after : List ℕ} → after ≡ unfolded_at D i s buffer → 512 * blocks_for plain n ≤ length after
  unfolding unfold_at unfolded_at plain_of
  buffer-ends buffer h q = rw (q, e, ge-ltb (room buffer h)) (simp length-append (omega (arith, plain_size)))

-- what is answered for a buffer is what is read
pub at-buffer : (D : List ℕ) (i : ℕ) (s buffer : List ℕ) → 8192 ≤ length buffer → unfold_at D i s buffer ≡ unfolding_of D i s
unfolding unfold_at
at-buffer D i s buffer h =
    reading-cases (unfolding_of D i s)
    (λ k j p q. rw q)
    (λ n q. rw (q, ge-ltb (room D i s q buffer h)))
