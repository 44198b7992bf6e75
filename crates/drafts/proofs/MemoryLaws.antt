-- Entries that stand in memory: how many, by number, where bytes are the same, and read from pieces of eight.
-- Assumes nothing.
use Rattle.std.proofs.Common.{◌≡◌, ℕ, zero, suc, ◌+◌, ◌*◌, ◌≤◌, ◌<◌, List, [], ◌∷◌, ◌++◌, length, map, take, drop, get_or, refl, ap, ap₂, ◌∙◌, arith}
use Rattle.std.proofs.lemmas.List.{get_or-drop, get_or-take}
use Rattle.std.specs.Simd.{first_chunks}
use Rattle.blocks.proofs.Format.EntryBytes.{same_entry}
use Rattle.blocks.specs.Entries.{entry_from}
use Rattle.blocks.specs.declared.Entry.{Entry}
use Rattle.drafts.specs.Memory.{entries_at}

pub length-entries : (m : List ℕ) (at n : ℕ) → length (entries_at m at n) ≡ n
unfolding entries_at
length-entries m at zero = refl
length-entries m at (suc n) = ap suc (length-entries m (at + 8) n)

pub entries-take : (m : List ℕ) (at n k : ℕ) → n ≤ k → take n (entries_at m at k) ≡ entries_at m at n
unfolding entries_at
entries-take m at zero k h = refl
entries-take m at (suc n) zero h = absurd (omega arith)
entries-take m at (suc n) (suc k) h = ap (λ (es : List Entry). entry_from m at ∷ es) (entries-take m (at + 8) n k (omega arith))

-- entries go by their bytes
pub entries-same : (m m' : List ℕ) (at at' n : ℕ) → ((k : ℕ) → k < 8 * n → get_or m' (at' + k) 0 ≡ get_or m (at + k) 0) → entries_at m' at' n ≡ entries_at m at n
unfolding entries_at
entries-same m m' at at' zero h = refl
entries-same m m' at at' (suc n) h =
    let e = same_entry m' m at' at (λ k l. h k (omega arith)) in
    let r = entries-same m m' (at + 8) (at' + 8) n
    (λ k l.
    let a : at + 8 + k ≡ at + (8 + k) = omega arith in
    let b : at' + 8 + k ≡ at' + (8 + k) = omega arith in
    rw (a, b) (h (8 + k) (omega arith))) in
    rw (e, r)

-- one more
pub entries-last : (m : List ℕ) (at n : ℕ) → entries_at m at (suc n) ≡ entries_at m at n ++ (entry_from m (at + 8 * n) ∷ [])
unfolding entries_at
entries-last m at zero = let e : at + 8 * 0 ≡ at = omega arith in rw e
entries-last m at (suc n) =
    let e : at + 8 * suc n ≡ at + 8 + 8 * n = omega arith in
    rw e (ap (λ (es : List Entry). entry_from m at ∷ es) (entries-last m (at + 8) n))

-- pieces of eight bytes are the entries that stand there
pub entries-pieces : (m xs : List ℕ) (at n : ℕ) → ((k : ℕ) → k < 8 * n → get_or xs k 0 ≡ get_or m (at + k) 0)
    → map (λ b. entry_from b 0) (first_chunks 8 n xs) ≡ entries_at m at n
unfolding entries_at
entries-pieces m xs at zero h = refl
entries-pieces m xs at (suc n) h =
    ap₂ ◌∷◌
    (same_entry (take 8 xs) m 0 at (λ k b. get_or-take 8 xs (0 + k) 0 (omega arith) ∙ ap (λ (i : ℕ). get_or xs i 0) (omega arith) ∙ h k (omega arith)))
    (entries-pieces m (drop 8 xs) (at + 8) n
    (λ k b. get_or-drop 8 xs k 0 ∙ h (8 + k) (omega arith) ∙ ap (λ (i : ℕ). get_or m i 0) (omega arith)))
