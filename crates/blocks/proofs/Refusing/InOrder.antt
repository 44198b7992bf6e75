-- Passes over the entries of an input in order: what is left after each, and which entry a turn has.
-- Assumes nothing.
use Rattle.std.proofs.Common.{◌≡◌, ℕ, zero, suc, ◌+◌, ◌-◌, ◌*◌, ◌/◌, ◌^◌, ◌<◌, ◌≤◌, min, List, [], ◌∷◌, ◌++◌, map, length, get_or, take, drop, Option, None, Some, sym, refl, subst, ap, ap₂, ◌∙◌, add-zero, zero-add, add-suc, suc-add, arith, length-drop, length-take, length-take-le, take_all, add-one}
use mathlib.Core.Logic.{inl}
use denote.Ref.{Bor}
use borrow.Rule.Slice.PartMut.{mid_of}
use Rattle.std.specs.Simd.{first_chunks}
use Rattle.std.proofs.lemmas.List.{get_or-drop, get_or-take, get_or_default, take-append-le}
use Rattle.std.proofs.lemmas.Iterator.{YieldsList}
use Rattle.std.proofs.lemmas.Iterator.Consumers.{YieldsList-from_enumerate, YieldsList-from_first, YieldsList-turn, YieldsList-end}
use Rattle.std.specs.Iterator.{Yields, YieldsFirstBy, item_count}
use Rattle.std.specs.Iterator.Runs.{CountFits}
use Rattle.std.specs.Iterator.Adapters.{enumerate_count, enumerate_source, enumerate_steps}
use Rattle.std.specs.List.{AllWithin, enumerate_from}
use Rattle.std.specs.declared.iter.Enumerate.{Enumerate}
use Rattle.std.proofs.lemmas.List.FromFn.{get_or-enumerate_from, length-enumerate_from}
use Rattle.base.proofs.Lists.{length-listed, listed}
use Rattle.blocks.proofs.Format.EntryBytes.{same_entry, entries_from-listed, entries-listed, length-entries}
use Rattle.blocks.specs.Entries.{entries_from, entries_of, nth, zero_entry, entry_at, entry_from}
use Rattle.blocks.specs.Frame.{entry_pos, plain, total_in}
use Rattle.blocks.specs.code.Blockwise.{Whole, entries_left, entries_there}
use Rattle.blocks.specs.declared.Entry.{Entry}
use Rattle.blocks.specs.declared.in_order.InOrder.{InOrder}

-- the entries of eight bytes each are those that stand there in other bytes, at the places that p says
pub listed-chunks : (p : ℕ → ℕ) (s : List ℕ) (c i : ℕ) (xs : List ℕ)
    → ((j k : ℕ) → j < c → k < 8 → get_or xs (8 * j + k) 0 ≡ get_or s (p (i + j) + k) 0)
    → map (λ b. entry_from b 0) (first_chunks 8 c xs) ≡ listed (λ n. entry_from s (p n)) i c
unfolding listed
listed-chunks p s zero i xs h = refl
listed-chunks p s (suc c) i xs h =
    ap₂ ◌∷◌
    (same_entry (take 8 xs) s 0 (p i) (λ k b.
    ap (λ (m : ℕ). get_or (take 8 xs) m 0) (zero-add k) ∙ get_or-take 8 xs k 0 b
    ∙ ap (λ (m : ℕ). get_or xs m 0) (omega arith) ∙ h 0 k (omega arith) b
    ∙ ap (λ (m : ℕ). get_or s (p m + k) 0) (add-zero i)))
    (listed-chunks p s c (suc i) (drop 8 xs) (λ j k b d.
    get_or-drop 8 xs (8 * j + k) 0
    ∙ ap (λ (m : ℕ). get_or xs m 0) (omega arith) ∙ h (suc j) k (omega arith) d
    ∙ ap (λ (m : ℕ). get_or s (p m + k) 0) (omega arith)))

-- two runs of values are equal where the functions agree, and one run is two in a row
pub listed-same : {A : Type 0} (f g : ℕ → A) (i j n : ℕ) → ((k : ℕ) → k < n → f (i + k) ≡ g (j + k)) → listed f i n ≡ listed g j n
unfolding listed
listed-same f g i j zero h = refl
listed-same f g i j (suc n) h =
    ap₂ ◌∷◌ (rw (add-zero, add-zero) at (h 0 (omega arith)))
    (listed-same f g (suc i) (suc j) n (λ k b. rw (suc-add, suc-add, ← add-suc, ← add-suc) (h (suc k) (omega arith))))

pub listed-two : {A : Type 0} (f : ℕ → A) (i m n : ℕ) → listed f i (m + n) ≡ listed f i m ++ listed f (i + m) n
unfolding listed
listed-two f i zero n = rw (zero-add n, add-zero i) refl
listed-two f i (suc m) n = rw (suc-add m n, add-suc i m, ← suc-add i m) (ap (λ (l : List _). f i ∷ l) (listed-two f (suc i) m n))

-- ---- what is left before a block and after it

-- there is nothing where no block is whole, and nothing of none
pub there-short : (s : List ℕ) (n : ℕ) → length s < 512 → entries_there s n ≡ []
unfolding entries_there entries_from
there-short s n h = let e : min n (63 * (length s / 512)) ≡ 0 = omega arith in rw e

pub there-none : (s : List ℕ) (n : ℕ) → n ≡ 0 → entries_there s n ≡ []
unfolding entries_there entries_from
there-none s n h = let e : min n (63 * (length s / 512)) ≡ 0 = omega arith in rw e

-- entries of the first block stand from its byte 4 on
first_place : (j : ℕ) → j < 63 → entry_pos plain (1 + j) ≡ 4 + 8 * j
unfolding entry_pos
first_place j h = omega arith

-- entry n after the first block is entry n of what comes after it
later_place : (j : ℕ) → entry_pos plain (1 + 63 + j) ≡ 512 + entry_pos plain (1 + j)
unfolding entry_pos
later_place j = omega arith

later_entry : (s : List ℕ) (j : ℕ) → entry_at s (1 + 63 + j) ≡ entry_at (drop 512 s) (1 + j)
unfolding entry_at
later_entry s j = same_entry s (drop 512 s) _ _ (λ k b. ap (λ (m : ℕ). get_or s m 0) (omega (arith, later_place j)) ∙ sym (get_or-drop 512 s _ 0))

-- the entries of a whole block, c of n, and those after it
pub left-block : (s xs : List ℕ) (n c : ℕ) → 512 ≤ length s → c ≡ min n 63
    → ((k : ℕ) → k < 8 * c → get_or xs k 0 ≡ get_or s (4 + k) 0)
    → entries_left (first_chunks 8 c xs) (drop 512 s) (n - c) ≡ entries_there s n
unfolding entries_left entries_there entry_at
left-block s xs n c w e h =
    let m = min (n - c) (63 * (length (drop 512 s) / 512)) in
    let l = length-drop 512 s in
    let k : min n (63 * (length s / 512)) ≡ c + m = omega arith in
    let here = listed-chunks (entry_pos plain) s c 1 xs (λ j k b d. h (8 * j + k) (omega arith) ∙ ap (λ (i : ℕ). get_or s i 0) (omega (arith, first_place j (omega arith)))) in
    let after : listed (entry_at (drop 512 s)) 1 m ≡ listed (entry_at s) (1 + c) m =
    listed-same (entry_at (drop 512 s)) (entry_at s) 1 (1 + c) m (λ j b. sym (ap (entry_at s) (omega arith) ∙ later_entry s j)) in
    rw (k, entries_from-listed, entries_from-listed, listed-two (entry_at s) 1 c m) (ap₂ ◌++◌ here after)

-- bytes 4 and on of a block, as long as c entries
abbrev pub cells : ℕ → List ℕ → List ℕ
cells c block = mid_of 4 (4 + 8 * c - 4) block

module _ (s block : List ℕ) (n c : ℕ) (w : 512 ≤ length s) (b : block ≡ take 512 s) (e : c ≡ min n 63) where
  -- they are c entries
  pub length-cells : length (cells c block) / 8 ≡ c
  length-cells = rw b (simp (length-take, length-drop) (omega arith))

  cell_byte : (k : ℕ) → k < 8 * c → get_or (cells c block) k 0 ≡ get_or s (4 + k) 0
  cell_byte k h = rw b (
      get_or-take (4 + 8 * c - 4) (drop 4 (take 512 s)) k 0 (omega arith)
      ∙ get_or-drop 4 (take 512 s) k 0
      ∙ get_or-take 512 s (4 + k) 0 (omega arith))

  -- the block opened, and what comes after it, are what there was
  pub left-open : entries_left (first_chunks 8 (length (cells c block) / 8) (cells c block)) (drop 512 s) (n - c) ≡ entries_there s n
  left-open = rw length-cells (left-block s (cells c block) n c w e cell_byte)

-- where no entry of a block is left, those of later blocks are
pub left_later : (here : List (List ℕ)) (later : List ℕ) (left : ℕ) → length here ≡ 0 → entries_left here later left ≡ entries_there later left
unfolding entries_left
left_later [] later left e = refl
left_later (b ∷ here) later left e = absurd (omega arith)

-- an entry is left, and then those after it
pub left-next : (here more : List (List ℕ)) (bytes later : List ℕ) (left : ℕ) {x : Entry} → here ≡ bytes ∷ more → x ≡ entry_from bytes 0
    → entries_left here later left ≡ x ∷ entries_left more later left
unfolding entries_left
left-next here more bytes later left e f = rw (e, f)

-- ---- a pass over the first n entries of an input that is there

-- they are the first n of the list
pub there-front : (s : List ℕ) (n : ℕ) → Whole s n → n ≤ length (entries_of s) → entries_there s n ≡ take n (entries_of s)
unfolding entries_there
there-front s n w few =
    let e : min n (63 * (length s / 512)) ≡ n = omega arith in
    let l = length-entries s in
    let m : total_in plain s ≡ n + (total_in plain s - n) = omega arith in
    let k = length-listed (entry_at s) 1 n in
    rw (e, entries_from-listed, entries-listed s, m, listed-two (entry_at s) 1 n (total_in plain s - n))
    (sym (take-append-le n _ _ (omega arith) ∙ take_all n _ (omega arith)))

-- what is left to an iterator, and what a call of it does, as its clauses have it
abbrev pub left_of : InOrder → List Entry
left_of it = entries_left it.here.now it.later.now it.left

abbrev pub steps : InOrder → Option (Bor (List ℕ)) → InOrder → Type 0
steps = YieldsFirstBy (λ b. entry_from b.now 0) (λ s. entries_left s.here.now s.later.now s.left)

-- an iterator over the first n entries of an input that has them
pub record Over (s : List ℕ) (n : ℕ) (it : InOrder) : Type 0 where
  pub there : Whole s n
  pub few : n ≤ length (entries_of s)
  pub made : left_of it ≡ entries_there s n

-- the same of its `enumerate`, whose numbers count from 0
pub record OverNumbered (s : List ℕ) (n : ℕ) (it : Enumerate InOrder) : Type 0 where
  pub over : Over s n (enumerate_source it)
  pub from_0 : enumerate_count it ≡ 0

-- as a loop makes them
pub over : {s : List ℕ} {n : ℕ} {made it : InOrder} → Whole s n → n ≤ length (entries_of s) → left_of made ≡ entries_there s n → it ≡ made → Over s n it
over w few m e = record { there = w; few = few; made = rw e m }

pub over-numbered : {s : List ℕ} {n : ℕ} {made : InOrder} {counted it : Enumerate InOrder} → Whole s n → n ≤ length (entries_of s) → left_of made ≡ entries_there s n
    → enumerate_source counted ≡ made → enumerate_count counted ≡ 0 → it ≡ counted → OverNumbered s n it
over-numbered w few m f z e = rw e (record { over = over w few m f; from_0 = z })

-- the turn after k others: it has entry k + 1
pub record Turn (s : List ℕ) (n k : ℕ) (e : Entry) : Type 0 where
  pub before : k < n
  pub entry : e ≡ nth (entries_of s) (k + 1)

-- it gives the first n entries
pub gives : {s : List ℕ} {n : ℕ} {it : InOrder} → Over s n it → YieldsList steps (λ b. entry_from b.now 0) it (take n (entries_of s))
gives {s} {n} o = YieldsList-from_first (λ b. entry_from b.now 0) (λ s. entries_left s.here.now s.later.now s.left) (take n (entries_of s)) (o.made ∙ there-front s n o.there o.few)

-- element k of the first n is entry k + 1
turn_at : (s : List ℕ) (n k : ℕ) (e : Entry) → n ≤ length (entries_of s) → k < length (take n (entries_of s)) → e ≡ get_or (take n (entries_of s)) k e → Turn s n k e
unfolding nth
turn_at s n k e few h q =
    let b : k < n = omega (arith, length-take-le n (entries_of s) few) in
    record {
      before = b;
      entry = q ∙ get_or-take n (entries_of s) k e b ∙ get_or_default (entries_of s) k e zero_entry (omega arith) ∙ rw (add-one k);
    }

-- what holds of each of the first n holds of them by number
pub each-front : (P : Entry → Type 0) (s : List ℕ) (n : ℕ) → n ≤ length (entries_of s)
    → AllWithin P (take n (entries_of s)) 0 (length (take n (entries_of s))) → (k : ℕ) → 1 ≤ k → k ≤ n → P (nth (entries_of s) k)
unfolding nth
each-front P s n few h zero lo hi = absurd (omega arith)
each-front P s n few h (suc k) lo hi =
    subst P (get_or-take n (entries_of s) k zero_entry hi) (h k zero_entry (omega arith) (omega (arith, length-take-le n (entries_of s) few)))

-- ---- for a loop over it, which has had the entries xs

pub turn : {s : List ℕ} {n : ℕ} {it : InOrder} → Over s n it → (xs : List (Bor (List ℕ))) (t : InOrder) → Yields steps it xs t
    → (r : Option (Bor (List ℕ))) (u : InOrder) (b : Bor (List ℕ)) → r ≡ Some b → steps t r u → Turn s n (length xs) (entry_from b.now 0)
turn {s} {n} o xs t y r u b i h = let f = YieldsList-turn (gives o) xs t y r u b i h in turn_at s n (length xs) (entry_from b.now 0) o.few f.0 f.1

pub turned-all : {s : List ℕ} {n : ℕ} {it : InOrder} → Over s n it → (xs : List (Bor (List ℕ))) (t : InOrder) → Yields steps it xs t
    → (r : Option (Bor (List ℕ))) (u : InOrder) → r ≡ None → steps t r u → length xs ≡ n
turned-all {s} {n} o xs t y r u i h =
    let f = YieldsList-end (gives o) xs t y r u i h in omega (arith, f.1, length-take-le n (entries_of s) o.few)

-- ---- and over its `enumerate`, whose numbers count from 0

-- it may be called: its numbers fit
pub may-number : {s : List ℕ} {n : ℕ} {it : Enumerate InOrder} → OverNumbered s n it → n < 2 ^ 64
    → CountFits steps (item_count left_of) (enumerate_count it) (enumerate_source it)
may-number {s} {n} w b =
    let o = w.over in
    let z = w.from_0 in
    let l = ap length (o.made ∙ there-front s n o.there w.over.few) in
    inl (omega (arith, l, length-take-le n (entries_of s) o.few))

pub gives-numbered : {s : List ℕ} {n : ℕ} {it : Enumerate InOrder} → OverNumbered s n it
    → YieldsList {B = ℕ × Entry} (enumerate_steps steps) (λ p. (p.0, entry_from p.1.now 0)) it (enumerate_from 0 (take n (entries_of s)))
gives-numbered w = YieldsList-from_enumerate (gives w.over) w.from_0

pub turn-numbered : {s : List ℕ} {n : ℕ} {it : Enumerate InOrder} → OverNumbered s n it
    → (xs : List (ℕ × Bor (List ℕ))) (t : Enumerate InOrder) → Yields (enumerate_steps steps) it xs t
    → (r : Option (ℕ × Bor (List ℕ))) (u : Enumerate InOrder) (k : ℕ) (e : Bor (List ℕ)) → r ≡ Some (k, e) → enumerate_steps steps t r u
    → (k ≡ length xs) × Turn s n k (entry_from e.now 0)
turn-numbered {s} {n} w xs t y r u k e i h =
    let f = YieldsList-turn (gives-numbered w) xs t y r u (k, e) i h in
    let b = length-enumerate_from 0 (take n (entries_of s)) in
    let q = f.1 ∙ get_or-enumerate_from 0 (take n (entries_of s)) (length xs) (k, entry_from e.now 0) (omega arith) in
    let same : k ≡ length xs = ap (λ (p : ℕ × Entry). p.0) q ∙ zero-add (length xs) in
    (same, rw same (turn_at s n (length xs) (entry_from e.now 0) w.over.few (omega arith) (ap (λ (p : ℕ × Entry). p.1) q)))

pub turned-all-numbered : {s : List ℕ} {n : ℕ} {it : Enumerate InOrder} → OverNumbered s n it
    → (xs : List (ℕ × Bor (List ℕ))) (t : Enumerate InOrder) → Yields (enumerate_steps steps) it xs t
    → (r : Option (ℕ × Bor (List ℕ))) (u : Enumerate InOrder) → r ≡ None → enumerate_steps steps t r u → length xs ≡ n
turned-all-numbered {s} {n} w xs t y r u i h =
    let f = YieldsList-end (gives-numbered w) xs t y r u i h in
    omega (arith, f.1, length-enumerate_from 0 (take n (entries_of s)), length-take-le n (entries_of s) w.over.few)
