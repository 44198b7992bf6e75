-- Laws of entries read by number.
-- Assumes nothing.
use Rattle.std.proofs.Common.{◌≡◌, ℕ, zero, suc, ◌+◌, ◌*◌, ◌/◌, ◌<◌, ◌≤◌, true, ltb, ◌≢◌, List, length, sym, refl, ap, ◌∙◌, arith}
use lib.ListN.{get_or-eq_default}
use Rattle.base.proofs.Lists.{get_d-listed}
use Rattle.base.proofs.Tests.{and_zero, gt-leb, le-leb, lt-cases, tests}
use Rattle.blocks.proofs.Format.EntryBytes.{entries-listed, length-entries}
use Rattle.blocks.proofs.words.WordLaws.{word-past}
use Rattle.blocks.specs.Entries.{entries_of, entry_at, entry_from, entry_of, nth, zero_entry}
use Rattle.blocks.specs.Frame.{entry_pos, plain, total_in}
use Rattle.blocks.specs.declared.Entry.{Entry}

-- an entry that starts past the end is the zero entry
pub entry_past : (s : List ℕ) (at : ℕ) → length s ≤ at → entry_from s at ≡ zero_entry
unfolding entry_from
entry_past s at h =
    rw (
      get_or-eq_default s 0 {n = at} h,
      get_or-eq_default s 0 {n = at + 1} (omega arith),
      word-past s (at + 2) (omega arith),
      word-past s (at + 4) (omega arith),
      word-past s (at + 6) (omega arith),
    )

-- entry n stands no earlier than after n - 1 entries
pos-bound : (n : ℕ) → 1 ≤ n → 8 * n ≤ entry_pos plain n + 4
unfolding entry_pos
pos-bound n h = omega arith

-- ---- the entries of an input

pub nth-entries : (s : List ℕ) (n : ℕ) → 1 ≤ n → n ≤ total_in plain s → nth (entries_of s) n ≡ entry_at s n
unfolding nth
nth-entries s zero h le = absurd (omega arith)
nth-entries s (suc k) h le =
    rw (entries-listed s) (get_d-listed (entry_at s) 1 (total_in plain s) zero_entry k (omega arith) ∙ ap (entry_at s) (omega arith))

-- ---- by number: none at 0, none above the total, and else the entry of that number
pub of_none : (s : List ℕ) (total n : ℕ) {r : Entry} → n ≡ 0 → r ≡ zero_entry → r ≡ entry_of s total n
unfolding entry_of
of_none s total n z e = e ∙ rw z

pub of-above : (s : List ℕ) (total n : ℕ) {r : Entry} → total < n → r ≡ zero_entry → r ≡ entry_of s total n
unfolding entry_of
of-above s total n h e = e ∙ simp (entry_of, gt-leb h, and_zero)

pub of-within : (s : List ℕ) (total n : ℕ) → n ≢ 0 → n ≤ total → entry_of s total n ≡ entry_at s n
unfolding entry_of
of-within s total n z h = let p : ltb 0 n ≡ true = omega tests in rw (entry_of, p, le-leb h)

pub of-past : (s : List ℕ) (total n : ℕ) {r : Entry} → n ≢ 0 → n ≤ total → length s / 8 + 1 < n → r ≡ zero_entry → r ≡ entry_of s total n
unfolding entry_at
of-past s total n z h l e =
    e ∙ sym (of-within s total n z h ∙ entry_past s (entry_pos plain n) (omega (arith, pos-bound n (omega arith))))

pub of-found : (s : List ℕ) (total n : ℕ) {at : ℕ} {r : Entry} → n ≢ 0 → n ≤ total → at ≡ entry_pos plain n → r ≡ entry_from s at → r ≡ entry_of s total n
unfolding entry_at
of-found s total n z h p e = (rw p at e) ∙ sym (of-within s total n z h)

-- by number from the blocks, and by number from the list
pub of-nth : (s : List ℕ) (total n : ℕ) → total ≡ length (entries_of s) → entry_of s total n ≡ nth (entries_of s) n
unfolding entry_of nth
of-nth s total zero e = refl
of-nth s total (suc k) e =
    lt-cases total (suc k)
    (λ h. sym (of-above s total (suc k) h refl) ∙ sym (get_or-eq_default (entries_of s) zero_entry (omega arith)))
    (λ h. of-within s total (suc k) (λ z. omega arith) h ∙ sym (nth-entries s (suc k) (omega arith) (omega (arith, length-entries s))))

-- among the first n of the list, from a total of n
pub of-front : (s : List ℕ) (n k : ℕ) → n ≤ length (entries_of s) → k ≤ n → entry_of s n k ≡ nth (entries_of s) k
unfolding entry_of nth
of-front s n zero h le = refl
of-front s n (suc k) h le =
    of-within s n (suc k) (λ z. omega arith) le ∙ sym (nth-entries s (suc k) (omega arith) (omega (arith, length-entries s)))
