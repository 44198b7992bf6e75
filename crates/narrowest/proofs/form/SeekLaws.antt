-- What is found by halving.
-- Assumes nothing.
use Prim.Native.Nat.{◌+◌, ◌<◌, ◌≤◌, suc, zero, ℕ}
use lib.ListN.{get_or, length, length-map}
use Rattle.std.proofs.lemmas.List.{get_or-map}
use mathlib.Core.List.{List}
use mathlib.Core.Logic.{◌≢◌}
use mathlib.Core.Path.{◌≡◌, sym}
use native.Mathlib.Omega.{arith}
use Rattle.base.proofs.Tests.{lt-cases}
use Rattle.blocks.specs.Entries.{nth, zero_entry}
use Rattle.blocks.specs.declared.Entry.{Entry}
use Rattle.meaning.proofs.Descriptions.Lookups.{match-first, match-missing}
use Rattle.meaning.specs.Lookup.{entry_for}
use Rattle.narrowest.specs.code.Forms.{Halving, Held, Seeks, entries_in, key_for, key_in}
use Rattle.unfolding.specs.code.Rows.{entry_of_row}

-- ---- halving

module _ {rows : List ℕ} (H : Held rows) {key from to : ℕ} (h : Halving rows key from to) where
  -- keys rise
  rising : (i j : ℕ) → i ≤ j → j < length rows → key_in (get_or rows i 0) ≤ key_in (get_or rows j 0)
  rising i j l m =
      lt-cases i j (λ k. let z = H.rising i j k m in omega arith) (λ k. let e : i ≡ j = omega arith in rw e (omega arith))

  pub halving-up : (m : ℕ) → from ≤ m → m < to → key_in (get_or rows m 0) < key → Halving rows key (m + 1) to
  halving-up m lo hi k =
      record {
        order = omega arith;
        limit = h.limit;
        below = λ i l. let z = rising i m (omega arith) (omega (arith, h.limit)) in omega arith;
        above = h.above;
      }

  pub halving-down : (m : ℕ) → from ≤ m → m < to → key ≤ key_in (get_or rows m 0) → Halving rows key from m
  halving-down m lo hi k =
      record {
        order = lo;
        limit = omega (arith, h.limit);
        below = h.below;
        above = λ i l n. let z = rising m i l n in omega arith;
      }

  pub halving-done : to ≤ from → Seeks rows key from
  halving-done l =
      let e : from ≡ to = omega (arith, h.order) in
      record { to = omega (arith, h.order, h.limit); below = h.below; above = λ i m n. h.above i (omega arith) n }

-- ---- an entry at a key

pub seeks-at : {rows : List ℕ} → Held rows → {key g : ℕ} → g < length rows → key_in (get_or rows g 0) ≡ key → Seeks rows key g
seeks-at {rows} H {key} {g} l e =
    record {
      to = omega arith;
      below = λ i m. let y = H.rising i g m l in omega (arith, e);
      above = λ i m n.
          lt-cases g i (λ k. let z = H.rising g i k n in omega (arith, e)) (λ k. let q : g ≡ i = omega arith in rw (← q) (omega (arith, e)));
    }

-- ---- the entry of a key

-- the key tells owner, kind and name
key-fields : (e : Entry) (o k n : ℕ) → e.kind < 256 → e.name < 65536 → k < 256 → n < 65536 → key_for e.owner e.kind e.name ≡ key_for o k n
    → (e.owner ≡ o) × (e.kind ≡ k) × (e.name ≡ n)
key-fields e o k n a b c d h = (omega arith, omega arith, omega arith)

-- kind and name fit their bytes
pub entry-small : (x : ℕ) → ((entry_of_row x).kind < 256) × ((entry_of_row x).name < 65536)
unfolding entry_of_row
entry-small x = (omega arith, omega arith)

-- entry p + 1 is that of number p
pub nth-row : (rows : List ℕ) (p : ℕ) → p < length rows → nth (entries_in rows) (suc p) ≡ entry_of_row (get_or rows p 0)
unfolding nth
nth-row rows p l = get_or-map entry_of_row rows p 0 zero_entry l

module _ {rows : List ℕ} (H : Held rows) (o k n : ℕ) (kb : k < 256) (nb : n < 65536) {i : ℕ} (S : Seeks rows (key_for o k n) i) where
  abbrev es : List Entry
  es = entries_in rows

  size : length es ≡ length rows
  size = length-map rows entry_of_row

  -- an entry with these fields has the key
  keyed : (p : ℕ) → p < length rows → (nth es (suc p)).owner ≡ o → (nth es (suc p)).kind ≡ k → (nth es (suc p)).name ≡ n → key_in (get_or rows p 0) ≡ key_for o k n
  unfolding key_in
  keyed p l a b c =
      let e = nth-row rows p l in
      let a' = rw e at a in
      let b' = rw e at b in
      let c' = rw e at c in
      rw (a', b', c')

  pub seek-found : i < length rows → key_in (get_or rows i 0) ≡ key_for o k n → i + 1 ≡ entry_for es o k n
  unfolding key_in
  seek-found l e =
      let x = entry_of_row (get_or rows i 0) in
      let f = key-fields x o k n (entry-small (get_or rows i 0)).0 (entry-small (get_or rows i 0)).1 kb nb e in
      let r = nth-row rows i l in
      let m = match-first es o k n (suc i) (omega arith) (omega (arith, size)) (rw r f.0) (rw r f.1) (rw r f.2) none in
      omega (arith, m)
    where
      none : (j : ℕ) → 1 ≤ j → j < suc i → (nth es j).owner ≡ o → (nth es j).kind ≡ k → (nth es j).name ≡ n → ⊥
      none zero lo hi a b c = absurd (omega arith)
      none (suc j) lo hi a b c =
          let z = keyed j (omega (arith, S.to)) a b c in
          let y = S.below j (omega arith) in
          absurd (omega arith)

  pub seek-none : (i < length rows → key_in (get_or rows i 0) ≢ key_for o k n) → 0 ≡ entry_for es o k n
  seek-none h = sym (match-missing es o k n none)
    where
      none : (j : ℕ) → 1 ≤ j → j ≤ length es → (nth es j).owner ≡ o → (nth es j).kind ≡ k → (nth es j).name ≡ n → ⊥
      none zero lo hi a b c = absurd (omega arith)
      none (suc j) lo hi a b c =
          let l : j < length rows = omega (arith, size) in
          let z = keyed j l a b c in
          lt-cases j i
          (λ m. let y = S.below j m in absurd (omega arith))
          (λ m. lt-cases i j
          (λ q. let y = H.rising i j q l in let w = S.above i (omega arith) (omega arith) in absurd (omega arith))
          (λ q. let e : i ≡ j = omega arith in absurd (h (rw e l) (rw e z))))
