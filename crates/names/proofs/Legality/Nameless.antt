-- With a dictionary of length 0 no name can be given: reading a description answers what reading a plain one does, but that a name is 13.
-- Assumes nothing.
use Prim.Native.Nat.{◌+◌, ◌<◌, ◌≤◌, suc, zero, ℕ}
use lib.Dec.{leb, ltb}
use lib.ListN.{length}
use mathlib.Core.Bool.{◌&&◌, false, true}
use mathlib.Core.List.{List, [], ◌++◌}
use mathlib.Core.Path.{◌∙◌, ◌≡◌, ap, refl, sym}
use native.Mathlib.Omega.{arith}
use Rattle.base.proofs.Tests.{bool_cases, tests}
use Rattle.blocks.proofs.Format.EntryBytes.{length-entries}
use Rattle.blocks.proofs.Refusing.EntryLaws.{nth-entries}
use Rattle.blocks.proofs.Refusing.FirstFault.{first-append, or_else}
use Rattle.blocks.proofs.Refusing.Legal.{form-kind}
use Rattle.blocks.proofs.Refusing.Readings.{reading-cases}
use Rattle.blocks.proofs.RoundTrip.Accepting.{sound-of-accepted}
use Rattle.blocks.proofs.RoundTrip.Faithful.{entries-limit}
use Rattle.blocks.specs.Entries.{entries_of, entry_of, form_ok, is_named, name_given, nth}
use Rattle.blocks.specs.Faults.{Fault, block_faults, entry_faults, entry_rows, faults, first, length_wrong, rows_from, Clean, Faulty, Finding}
use Rattle.blocks.specs.Frame.{blocks_in, check_wrong, frame_wrong, plain, total_in}
use Rattle.blocks.specs.Owners.{depth_ok, owner_ok}
use Rattle.blocks.specs.Reading.{answer, reading_of}
use Rattle.blocks.specs.declared.Entry.{Entry}
use Rattle.std.specs.Prelude.{Ok}
use Rattle.blocks.specs.declared.Schema.TheVariants.{Description, Named}
use Rattle.names.proofs.Entries.UnfoldPlain.{unfold-plain}
use Rattle.names.proofs.Legality.NamedReadings.{accepted-legal, form-named, named-refused, named-taken, of-small}
use Rattle.names.proofs.Legality.NoNames.{form-same, unnamed-plain}
use Rattle.names.specs.NamedForm.{named_form_ok}
use Rattle.names.specs.NamedReading.{named_reading, cause_at, too_large, unnamed}
use Rattle.names.specs.Unfold.{contents, unfolded_by}

-- what a search finds, then
abbrev unnamed_at : (ℕ → Entry) → Finding → Finding
unnamed_at g Clean = Clean
unnamed_at g (Faulty k p) = Faulty (cause_at (g p) k) p

-- no name is from 1 to 0
none-to-zero : (x : ℕ) → (ltb 0 x && leb x 0) ≡ false
none-to-zero zero = refl
none-to-zero (suc x) = let a : ltb 0 (suc x) ≡ true = omega tests in let b : leb (suc x) 0 ≡ false = omega tests in rw (a, b)

module _ (es : List Entry) (g : ℕ → Entry) where
  -- one entry, and what is found after it
  entry-unnamed : (n : ℕ) (xs ys : List Fault) → g n ≡ nth es n → first xs ≡ unnamed_at g (first ys)
      → first (entry_rows (Named 0) es n ++ xs) ≡ unnamed_at g (first (entry_rows Description es n ++ ys))
  unfolding first owner_ok name_given cause_at
  entry-unnamed n xs ys q h =
      let e = nth es n in
      let same = form-named 0 e in
      bool_cases (form_ok Description e)
      (λ p.
      let no : is_named e ≡ false = omega (tests, (form-kind e p).1) in
      let f : form_ok (Named 0) e ≡ true = same ∙ form-same e no ∙ p in
      bool_cases (owner_ok Description es n)
      (λ o. bool_cases (depth_ok es n) (λ d. rw (f, p, no, o, d) h) (λ d. rw (f, p, no, o, d)))
      (λ o. rw (f, p, no, o)))
      (λ p. bool_cases (is_named e)
      (λ y. bool_cases (named_form_ok e)
      (λ w. let f : form_ok (Named 0) e ≡ true = same ∙ w in rw (f, p, q, y, w, none-to-zero e.name))
      (λ w. let f : form_ok (Named 0) e ≡ false = same ∙ w in rw (f, p, q, y, w)))
      (λ y. let f : form_ok (Named 0) e ≡ false = same ∙ form-same e y ∙ p in rw (f, p, q, y)))

  entries-unnamed : (n left : ℕ) → ((k : ℕ) → n ≤ k → k < n + left → g k ≡ nth es k)
      → first (entry_faults (Named 0) es n left) ≡ unnamed_at g (first (entry_faults Description es n left))
  unfolding entry_faults rows_from first
  entries-unnamed n zero h = refl
  entries-unnamed n (suc left) h =
      entry-unnamed n (entry_faults (Named 0) es (suc n) left) (entry_faults Description es (suc n) left) (h n (omega arith) (omega arith))
      (entries-unnamed (suc n) left (λ k lo hi. h k (omega arith) (omega arith)))

-- numbers 2 and 3 stay
blocks-unnamed : (g : ℕ → Entry) (s : List ℕ) (n i left : ℕ) → unnamed_at g (first (block_faults plain s n i left)) ≡ first (block_faults plain s n i left)
unfolding block_faults first cause_at
blocks-unnamed g s n i zero = refl
blocks-unnamed g s n i (suc left) =
    bool_cases (check_wrong s i)
    (λ p. rw p)
    (λ p. bool_cases (frame_wrong plain s n i) (λ q. rw (p, q)) (λ q. rw (p, q) (blocks-unnamed g s n (suc i) left)))

or-else-unnamed : (g : ℕ → Entry) (x y z : Finding) → unnamed_at g x ≡ x → y ≡ unnamed_at g z → or_else x y ≡ unnamed_at g (or_else x z)
or-else-unnamed g Clean y z h q = q
or-else-unnamed g (Faulty k p) y z h q = sym h

faults-unnamed : (g : ℕ → Entry) (s : List ℕ) → ((k : ℕ) → 1 ≤ k → k < 1 + length (entries_of s) → g k ≡ nth (entries_of s) k)
    → first (faults (Named 0) s) ≡ unnamed_at g (first (faults Description s))
unfolding faults first cause_at length_wrong
faults-unnamed g s h =
    let n = blocks_in s in
    let es = entries_of s in
    let blocks = block_faults plain s n 0 n in
    bool_cases (length_wrong Description s)
    (λ q. rw q)
    (λ q. rw (q, first-append blocks (entry_faults (Named 0) es 1 (length es)), first-append blocks (entry_faults Description es 1 (length es)))
    (or-else-unnamed g (first blocks) _ _ (blocks-unnamed g s n 0 n) (entries-unnamed es g 1 (length es) h)))

-- ---- readings

answer-unnamed : (g : ℕ → Entry) (i t : ℕ) (f : Finding) → answer i t (unnamed_at g f) ≡ unnamed g (answer i t f)
answer-unnamed g i t Clean = refl
answer-unnamed g i t (Faulty k p) = refl

-- the entry that is read by its number alone
entry-there : (s : List ℕ) (k : ℕ) → 1 ≤ k → k < 1 + length (entries_of s) → entry_of s k k ≡ nth (entries_of s) k
unfolding entry_of
entry-there s k lo hi =
    let a : ltb 0 k ≡ true = omega tests in
    let b : leb k k ≡ true = omega tests in
    rw (a, b) (sym (nth-entries s k lo (omega (arith, length-entries s))))

reading-unnamed : (i : ℕ) (s : List ℕ) → reading_of (Named 0) i s ≡ unnamed (λ p. entry_of s p p) (reading_of Description i s)
unfolding reading_of
reading-unnamed i s =
    ap (answer i (total_in plain s)) (faults-unnamed (λ p. entry_of s p p) s (entry-there s)) ∙ answer-unnamed (λ p. entry_of s p p) i (total_in plain s) (first (faults Description s))

-- an accepted description stands for itself
pub plain-itself : (i : ℕ) (s : List ℕ) {n : ℕ} → reading_of (Named 0) i s ≡ Ok n → unfolded_by [] (entries_of s) ≡ entries_of s
unfolding unfolded_by
plain-itself i s e = unfold-plain (contents []) (entries_of s) (unnamed-plain (entries_of s) (accepted-legal 0 i s e))

not-large : (i : ℕ) (s : List ℕ) {n : ℕ} → reading_of (Named 0) i s ≡ Ok n → too_large (unfolded_by [] (entries_of s)) ≡ false
not-large i s e =
    rw (plain-itself i s e) (of-small (entries_of s)
    (record { size = entries-limit (sound-of-accepted (Named 0) i s e).blocks; depth = (accepted-legal 0 i s e).depth }))

-- so that what no number up to 13 refuses is taken
pub nameless-taken : (i : ℕ) (s : List ℕ) {n : ℕ} → reading_of (Named 0) i s ≡ Ok n → named_reading [] i s ≡ Ok n
nameless-taken i s e = named-taken [] i s e (not-large i s e)

-- with no dictionary: 13 in place of 4 where the entry is a name
pub named_none : (i : ℕ) (s : List ℕ) → named_reading [] i s ≡ unnamed (λ p. entry_of s p p) (reading_of Description i s)
named_none i s =
    reading-cases (reading_of (Named 0) i s)
    (λ k j p e. named-refused [] i s e ∙ sym e ∙ reading-unnamed i s)
    (λ n e. nameless-taken i s e ∙ sym e ∙ reading-unnamed i s)
