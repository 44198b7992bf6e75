-- The lines of a specimen that is written at the start of the output are the lines of its entries.
-- Assumes nothing.
use Prim.Native.Nat.{◌+◌, ◌<◌, ◌≤◌, suc, ℕ}
use lib.ListN.{get_or-append, get_or, length}
use mathlib.Core.List.{List, [], ◌++◌, ◌∷◌}
use mathlib.Core.Path.{◌∙◌, ◌≡◌, ap, refl, sym}
use native.Mathlib.Omega.{arith}
use Rattle.blocks.proofs.Refusing.EntryLaws.{of-nth, of-within}
use Rattle.blocks.proofs.RoundTrip.Decoding.{decode-encode, length-encode}
use Rattle.blocks.specs.Encoding.{blocks_for, encode}
use Rattle.blocks.specs.Entries.{entry_at, entry_from, entry_of, nth, zero_entry}
use Rattle.blocks.specs.Frame.{entry_pos, plain}
use Rattle.blocks.specs.declared.Entry.{Entry}
use Rattle.lists.proofs.JoinedParts.{word-left}
use Rattle.report.specs.Lines.{entry_lines, lines_from, specimen_line}

-- ---- entries of a list that goes on

entry-left : (s t : List ℕ) (at : ℕ) → at + 8 ≤ length s → entry_from (s ++ t) at ≡ entry_from s at
unfolding entry_from
entry-left s t at h =
    rw (
      get_or-append s t 0 at (omega arith),
      get_or-append s t 0 (at + 1) (omega arith),
      word-left s t (at + 2) (omega arith),
      word-left s t (at + 4) (omega arith),
      word-left s t (at + 6) (omega arith),
    )

-- entry n of a list of entries stands in its blocks
pos-within : (es : List Entry) (n : ℕ) → 1 ≤ n → n ≤ length es → entry_pos plain n + 8 ≤ length (encode es)
unfolding entry_pos blocks_for
pos-within es n lo hi = rw (length-encode es) (omega arith)

entry-written : (es : List Entry) (t : List ℕ) (n : ℕ) → 1 ≤ n → n ≤ length es → entry_of (encode es ++ t) (length es) n ≡ nth es n
unfolding entry_at
entry-written es t n lo hi =
    of-within (encode es ++ t) (length es) n (λ z. omega arith) hi
    ∙ entry-left (encode es) t (entry_pos plain n) (pos-within es n lo hi)
    ∙ sym (of-within (encode es) (length es) n (λ z. omega arith) hi)
    ∙ of-nth (encode es) (length es) n (sym (ap length (decode-encode es)))
    ∙ ap (λ (l : List Entry). nth l n) (decode-encode es)

-- ---- their lines

lines-read : (s : List ℕ) (total n : ℕ) (es : List Entry) → ((k : ℕ) → k < length es → entry_of s total (n + k) ≡ get_or es k zero_entry)
    → lines_from s total n (length es) ≡ entry_lines n es
unfolding lines_from entry_lines specimen_line
lines-read s total n [] h = refl
lines-read s total n (e ∷ es) h =
    let q : n + 0 ≡ n = omega arith in
    let here : entry_of s total n ≡ e = rw q at (h 0 (omega arith)) in
    let later = lines-read s total (suc n) es (λ k l. let p : suc n + k ≡ n + suc k = omega arith in rw p (h (suc k) (omega arith))) in
    rw (here, later)

pub lines-written : (es : List Entry) (t : List ℕ) → lines_from (encode es ++ t) (length es) 1 (length es) ≡ entry_lines 1 es
unfolding nth
lines-written es t =
    lines-read (encode es ++ t) (length es) 1 es
    (λ k l. let p : 1 + k ≡ suc k = omega arith in rw p (entry-written es t (suc k) (omega arith) (omega arith)))
