-- Descriptions on standard input: two that are accepted, joined, divide into just these two, and one alone does not divide.
-- Assumes nothing.
use Prim.Native.Nat.{ℕ}
use lib.ListN.{length}
use lib.Seq.{drop-append_seam, take-append_seam}
use mathlib.Core.List.{List, [], ◌++◌}
use mathlib.Core.Path.{◌≡◌}
use native.Mathlib.Omega.{arith}
use Rattle.blocks.proofs.RoundTrip.Accepting.{sound-of-accepted}
use Rattle.blocks.specs.Reading.{reading_of}
use Rattle.std.specs.Prelude.{Ok}
use Rattle.blocks.specs.declared.Schema.TheVariants.{Description}
use Rattle.lists.proofs.FirstPart.{no_second}
use Rattle.lists.proofs.JoinedParts.{Numbered, begins-none, joined-cut, numbered}
use Rattle.lists.specs.Parts.{first_length, first_part, second_part}

-- ---- an accepted description

numbered-accepted : (i : ℕ) (s : List ℕ) {n : ℕ} → reading_of Description i s ≡ Ok n → Numbered s
numbered-accepted i s e = numbered Description s (sound-of-accepted Description i s e).blocks

-- ---- on standard input

-- [Q2] C up to the first later block numbered 1, then D
pub joined-divides : (i j : ℕ) (c d : List ℕ) {n m : ℕ} → reading_of Description i c ≡ Ok n → reading_of Description j d ≡ Ok m
    → first_length (c ++ d) ≡ length c
joined-divides i j c d p q =
    let a = numbered-accepted j d q in
    let l = a.long in
    let o = a.some in
    joined-cut c d (numbered-accepted i c p) (omega arith) (a.number 0 o)

pub joined-parts : (i j : ℕ) (c d : List ℕ) {n m : ℕ} → reading_of Description i c ≡ Ok n → reading_of Description j d ≡ Ok m
    → (first_part (c ++ d) ≡ c) × (second_part (c ++ d) ≡ d)
joined-parts i j c d p q =
    let e = joined-divides i j c d p q in
    (rw (e, take-append_seam), rw (e, drop-append_seam))

-- [Q2] without one, C is all: as with one description alone
pub alone-parts : (i : ℕ) (c : List ℕ) {n : ℕ} → reading_of Description i c ≡ Ok n → (first_part c ≡ c) × (second_part c ≡ [])
alone-parts i c p = no_second c (begins-none (numbered-accepted i c p))
