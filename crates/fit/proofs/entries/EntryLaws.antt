-- Entries by number, at the indices of their bytes.
-- Assumes nothing.
use Rattle.std.proofs.Common.{◌≡◌, ℕ, ◌*◌, ◌+◌, ◌-◌, ◌/◌, ◌<◌, ◌≤◌, List, [], get_or, length, take, drop, take_all, length-drop, length-take-le, ◌∙◌, ap, sym, arith}
use Rattle.std.specs.Simd.{first_chunks}
use Rattle.blocks.proofs.Format.EntryBytes.{entry_alone, length-entries}
use Rattle.blocks.proofs.Refusing.EntryLaws.{nth-entries}
use Rattle.blocks.specs.Entries.{entries_of, entry_at, entry_from, nth}
use Rattle.blocks.specs.Frame.{entry_pos, plain}
use Rattle.blocks.specs.declared.Entry.{Entry}
use Rattle.fit.specs.code.Index.{Has}

-- the index of an entry's bytes, worked out
pub place_is : (k : ℕ) → 1 ≤ k → k < 2048 → 8 * (k + k * 4161 / 262144) - 4 ≡ entry_pos plain k
unfolding entry_pos
place_is k lo hi = omega arith

-- an entry that is there
module _ {s : List ℕ} {k at : ℕ} (H : Has s k) (p : at ≡ entry_pos plain k) where
  pub has_there : at + 8 ≤ length s
  unfolding entry_pos
  has_there = omega (arith, p, H.some, H.within, H.whole)

  pub has_small : at < 65536
  unfolding entry_pos
  has_small = omega (arith, p, H.within, H.few)

  -- the eight from there on, as the one part of eight that they are, are the entry's
  pub has_read : {e : Entry} {n : ℕ} {parts : List (List ℕ)} → n ≡ 8 → parts ≡ first_chunks 8 (length (take n (drop at s)) / 8) (take n (drop at s))
      → e ≡ entry_from (get_or parts 0 []) 0 → e ≡ nth (entries_of s) k
  unfolding entry_at
  has_read n b h =
      let xs = take 8 (drop at s) in
      let l : length xs ≡ 8 = length-take-le 8 (drop at s) (omega (arith, has_there, length-drop at s)) in
      let one : length xs / 8 ≡ 1 = omega (arith, l) in
      h ∙ ap (λ ys. entry_from (get_or ys 0 []) 0) ((rw n at b) ∙ ap (λ m. first_chunks 8 m xs) one)
      ∙ ap (λ ys. entry_from ys 0) (take_all 8 xs (omega (arith, l))) ∙ entry_alone s at
      ∙ ap (entry_from s) p ∙ sym (nth-entries s k H.some (omega (arith, length-entries s, H.within)))
