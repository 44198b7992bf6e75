-- What an accepted description has, and which tables it has room in.
-- Assumes nothing.
use Rattle.std.proofs.Common.{◌≡◌, ℕ, ◌*◌, ◌/◌, ◌<◌, ◌≤◌, Ok, Err, List, length, refl, ap, ◌∙◌, arith}
use Rattle.base.proofs.Tests.{ge-ltb, lt-cases, lt-ltb}
use Rattle.blocks.proofs.Format.EntryBytes.{length-entries}
use Rattle.blocks.proofs.RoundTrip.Accepting.{none-of-accepted, sound-of-accepted}
use Rattle.blocks.proofs.RoundTrip.Faithful.{entries-limit, entries-whole, total-bound}
use Rattle.blocks.specs.Entries.{entries_of}
use Rattle.blocks.specs.Frame.{blocks_in}
use Rattle.blocks.specs.Promise.{Legal}
use Rattle.blocks.specs.Reading.{Reading, reading_of, returned}
use Rattle.blocks.specs.code.Blockwise.{Whole}
use Rattle.blocks.specs.declared.Refusal.{Refusal}
use Rattle.blocks.specs.declared.Schema.TheVariants.{Description}
use Rattle.places.specs.Owned.{with_room}

pub record Accepted (s : List ℕ) (n : ℕ) : Type 0 where
  pub counted : n ≡ length (entries_of s)
  pub few : n ≤ 1008
  pub short : n ≤ 63 * (length s / 512)
  pub whole : Whole s n
  pub legal : Legal Description (entries_of s)

pub accepted : (s : List ℕ) (i : ℕ) {n : ℕ} → reading_of Description i s ≡ Ok n → Accepted s n
unfolding blocks_in
accepted s i e =
    let total = (none-of-accepted Description i s e).1 in
    let sound = sound-of-accepted Description i s e in
    record {
      counted = total;
      few = omega (arith, total, entries-limit sound.blocks);
      short = omega (arith, total, length-entries s, total-bound sound.blocks);
      whole = omega (arith, total, entries-whole sound.blocks);
      legal = sound.entries;
    }

-- ---- room

room-for : (N : ℕ) (r : Reading) → ((n : ℕ) → r ≡ Ok n → n < N) → with_room N r ≡ r
room-for N (Err x) h = refl
room-for N (Ok n) h = rw (lt-ltb (h n refl)) refl

-- what has room is what is read, and has fewer entries than cells
pub room-fits : (N : ℕ) (r : Reading) {n : ℕ} → with_room N r ≡ Ok n → (r ≡ Ok n) × (n < N)
room-fits N (Err x) e = absurd (err-ok e)
  where
    err-ok : {n : ℕ} → ◌≡◌ {A = Reading} (Err x) (Ok n) → ⊥
    err-ok q = cc
room-fits N (Ok m) {n} e =
    lt-cases m N
    (λ h.
    let q : ◌≡◌ {A = Reading} (Ok m) (Ok n) = rw (lt-ltb h) at e in
    let k : m ≡ n = ap (λ (r : Reading). (returned r).entries) q in
    (q, omega (arith, k, h)))
    (λ h. absurd (err-ok (rw (ge-ltb h) at e)))
  where
    err-ok : {x : Refusal} {n : ℕ} → ◌≡◌ {A = Reading} (Err x) (Ok n) → ⊥
    err-ok q = cc

-- tables of 1,009 cells have room for every description
pub room-all : (s : List ℕ) (i : ℕ) → with_room 1009 (reading_of Description i s) ≡ reading_of Description i s
room-all s i = room-for 1009 (reading_of Description i s) (λ n e. omega (arith, (accepted s i e).few))

-- and those of 64 for one of a block
pub room-blocks : (N : ℕ) (s : List ℕ) (i : ℕ) → 63 * (length s / 512) < N → with_room N (reading_of Description i s) ≡ reading_of Description i s
room-blocks N s i h = room-for N (reading_of Description i s) (λ n e. omega (arith, h, (accepted s i e).short))
