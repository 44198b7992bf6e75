-- The laws of ways: where a search comes, that it ends after as many turns as a route has bits at the latest, that it
-- finds the number of the key, and that all this stays when a free cell is taken.
-- Assumes nothing.
use Rattle.std.proofs.Common.{◌≡◌, ℕ, zero, suc, ◌+◌, ◌-◌, ◌*◌, ◌/◌, ◌%◌, ◌^◌, ◌<◌, ◌≤◌, ◌≢◌, List, length, get_or, set, sym, ap, refl, ◌∙◌, arith, length-set, get_or-set_other, get_or-set_same}
use Rattle.std.proofs.lemmas.Nat.Bits.{bit_at-lt, same_from_bits_below}
use Rattle.std.specs.Int.{bit_at}
use lib.Bits.{and_le_r}
use native.Mathlib.Nat.{mod-lt, div-add-mod, mul-le-mul_left}
use Rattle.base.proofs.ChainLaws.{last-bucket, last-most, last_none}
use Rattle.base.proofs.Tests.{eq-cases, lt-cases, eqb-ne, ne_eqb}
use Rattle.base.specs.Chain.{last_where}
use Rattle.base.specs.Ways.{Ends, OnWay, Parting, Passed, Planted, Stands, Way, by_product, by_quotient, cell_after}

-- ---- its cells

-- each is one where searches begin, or one of a number in a cell
cell_below : (t : List ℕ) (w : Way) (x top turns : ℕ) → Parting w
    → ((c : ℕ) → get_or t c 0 ≢ 0 → get_or t c 0 ≤ top)
    → ((j : ℕ) → j < turns → get_or t (cell_after t w x j) 0 ≢ 0)
    → cell_after t w x turns < w.most + 2 * top + 2
unfolding cell_after
cell_below t w x top zero p low full = omega (arith, p.inside x)
cell_below t w x top (suc j) p low full =
    omega (arith, low (cell_after t w x j) (full j (omega arith)), bit_at-lt (w.route x) j)

-- Where each number stands in one cell, two ways that meet have come there after equally many turns, from one cell and
-- by the same bits.
pub record Met (w : Way) (x y j i : ℕ) : Type 0 where
  pub same : j ≡ i
  pub start : w.start x ≡ w.start y
  pub bits : (b : ℕ) → b < j → bit_at (w.route x) b ≡ bit_at (w.route y) b

meet : (t : List ℕ) (w : Way) → Parting w
    → ((c d : ℕ) → get_or t c 0 ≢ 0 → get_or t c 0 ≡ get_or t d 0 → c ≡ d)
    → (x y j i : ℕ) → ((k : ℕ) → k < j → get_or t (cell_after t w x k) 0 ≢ 0)
    → cell_after t w x j ≡ cell_after t w y i → Met w x y j i
unfolding cell_after
meet t w p once x y zero zero full e = record { same = refl; start = e; bits = λ b h. absurd (omega arith) }
meet t w p once x y zero (suc i) full e = absurd (omega (arith, p.inside x))
meet t w p once x y (suc j) zero full e = absurd (omega (arith, p.inside y))
meet t w p once x y (suc j) (suc i) full e =
    let a = bit_at-lt (w.route x) j in
    let b = bit_at-lt (w.route y) i in
    let number : get_or t (cell_after t w x j) 0 ≡ get_or t (cell_after t w y i) 0 = omega arith in
    let bit : bit_at (w.route x) j ≡ bit_at (w.route y) i = omega arith in
    let before = meet t w p once x y j i (λ k h. full k (omega arith)) (once _ _ (full j (omega arith)) number) in
    record {
      same = ap suc before.same;
      start = before.start;
      bits = λ k h. eq-cases k j
          (λ z. rw z (bit ∙ ap (bit_at (w.route y)) (sym before.same)))
          (λ z. before.bits k (omega arith));
    }

-- ---- its turns

-- it begins
pub passed_start : {key : ℕ → ℕ} {t : List ℕ} {w : Way} {x c : ℕ} → c ≡ w.start x → Passed key t w x 0 c
unfolding cell_after
passed_start e = record { cell = e; full = λ j h. absurd (omega arith); other = λ j h. absurd (omega arith) }

module _ {key : ℕ → ℕ} {t : List ℕ} {w : Way} {x turns c : ℕ} (P : Passed key t w x turns c) where
  -- the cell to which it comes is on its way
  passed_way : OnWay t w x c
  passed_way = record { turns = turns; cell = P.cell; full = P.full }

  -- it does not leave the table
  pub passed-inside : {n : ℕ} → Planted key w t n → c < length t
  passed-inside {n} R = omega (arith, P.cell, R.room, cell_below t w x n turns R.parting R.known P.full)

  -- past a cell whose number has another key
  pub passed-more : {g : ℕ} → g ≡ get_or t c 0 → g ≢ 0 → key g ≢ x
      → Passed key t w x (turns + 1) (w.most + 2 * g + bit_at (w.route x) turns)
  unfolding cell_after
  passed-more {g = g} e z y =
      let here : get_or t (cell_after t w x turns) 0 ≡ g = rw (← P.cell) (sym e) in
      let next : turns + 1 ≡ suc turns = omega arith in
      record {
        cell = rw (next, here);
        full = λ j h. eq-cases j turns (λ q w. z (sym here ∙ rw q at w)) (λ q. P.full j (omega arith));
        other = λ j h. eq-cases j turns (λ q w. y (rw (q, here) at w)) (λ q. P.other j (omega arith));
      }

  -- to a cell that is free, or whose number has the key
  pub ends-free : {bits : ℕ} → turns ≤ bits → get_or t c 0 ≡ 0 → Ends key t w bits x c
  ends-free few z = record { turns = turns; few = few; passed = P; found = λ y. absurd (y z) }

  pub ends-found : {bits g : ℕ} → turns ≤ bits → g ≡ get_or t c 0 → key g ≡ x → Ends key t w bits x c
  ends-found few e z = record { turns = turns; few = few; passed = P; found = λ y. rw (← e) z }

  -- where it comes to a free cell, no number of the table has the key
  pub free-misses : {n : ℕ} → Planted key w t n → get_or t c 0 ≡ 0
      → (d : ℕ) → get_or t d 0 ≢ 0 → key (get_or t d 0) ≢ x
  free-misses R free d z same =
      let o : OnWay t w x d = rw same at (R.on_way d z) in
      eq-cases o.turns turns
      (λ q. z (rw (o.cell, q, ← P.cell) free))
      (λ q. lt-cases o.turns turns
      (λ h. P.other o.turns h (rw (← o.cell) same))
      (λ h. o.full turns (omega arith) (rw (← P.cell) free)))

-- and it ends after as many turns as a route has bits: a number there has the same ones
pub ends-last : {key : ℕ → ℕ} {t : List ℕ} {w : Way} {bits x c n : ℕ} → Planted key w t n → w.route x < 2 ^ bits
    → w.route (key (get_or t c 0)) < 2 ^ bits → Passed key t w x bits c → Ends key t w bits x c
ends-last {key} {t} {w} {bits} {x} {c} R small below P =
    record {
      turns = bits;
      few = omega arith;
      passed = P;
      found = λ z.
          let o = R.on_way c z in
          let own = key (get_or t c 0) in
          let m = meet t w R.parting R.once x own bits o.turns P.full (sym P.cell ∙ o.cell) in
          let one = same_from_bits_below bits (w.route x) (w.route own) small below m.bits in
          sym (R.parting.apart x own m.start one);
    }

-- ---- what it finds

-- where no number has the key, there is none
last-absent : (key : ℕ → ℕ) (x n : ℕ) → ((k : ℕ) → 1 ≤ k → k ≤ n → key k ≢ x) → last_where key x n ≡ 0
unfolding last_where
last-absent key x zero h = refl
last-absent key x (suc n) h =
    rw (ne_eqb (h (suc n) (omega arith) (omega arith))) (last-absent key x n (λ k lo hi. h k lo (omega arith)))

-- the number of the key, of keys that all differ
pub ends-at : {key : ℕ → ℕ} {t : List ℕ} {w : Way} {bits x c n : ℕ} → Planted key w t n
    → ((i j : ℕ) → 1 ≤ i → i < j → j ≤ n → key i ≢ key j) → Ends key t w bits x c
    → get_or t c 0 ≡ last_where key x n
ends-at {key} {t} {w} {bits} {x} {c} {n} R apart E =
    eq-cases (get_or t c 0) 0
    (λ z. z ∙ sym (last-absent key x n (λ k lo hi same.
    let s = R.held k lo hi in
    free-misses E.passed R z s.cell (λ y. omega (arith, s.has)) (rw s.has same))))
    (λ z.
    let s = get_or t c 0 in
    let has : key s ≡ x = E.found z in
    let top = last-most key x n in
    eq-cases (last_where key x n) 0
    (λ q. absurd (eqb-ne (last_none key x n q s (omega arith) (R.known c z)) has))
    (λ q.
    let own = last-bucket key x n q in
    eq-cases s (last_where key x n) (λ e. e)
    (λ e. lt-cases s (last_where key x n)
    (λ h. absurd (apart s (last_where key x n) (omega arith) h top (has ∙ sym own)))
    (λ h. absurd (apart (last_where key x n) s (omega arith) (omega arith) (R.known c z) (own ∙ sym has))))))

-- ---- no numbers, and one more

pub planted-start : (key : ℕ → ℕ) (w : Way) {t : List ℕ} → Parting w → w.most + 2 ≤ length t
    → ((c : ℕ) → get_or t c 0 ≡ 0) → Planted key w t 0
planted-start key w p room free = record {
  parting = p;
  room = omega arith;
  known = λ c z. absurd (z (free c));
  once = λ c d z. absurd (z (free c));
  on_way = λ c z. absurd (z (free c));
  held = λ k lo hi. absurd (omega arith);
}

-- the same keys
pub planted-same : {key key' : ℕ → ℕ} {w : Way} {t : List ℕ} {n : ℕ} → ((j : ℕ) → 1 ≤ j → j ≤ n → key' j ≡ key j)
    → Planted key w t n → Planted key' w t n
planted-same {t = t} same R = record {
  parting = R.parting;
  room = R.room;
  known = R.known;
  once = R.once;
  on_way = λ c z. rw (same (get_or t c 0) (omega arith) (R.known c z)) (R.on_way c z);
  held = R.held;
}

module _ (t : List ℕ) (w : Way) (c v : ℕ) (free : get_or t c 0 ≡ 0) where
  -- the search passes cells that are not free
  cell_same : (x turns : ℕ) → ((j : ℕ) → j < turns → get_or t (cell_after t w x j) 0 ≢ 0)
      → cell_after (set t c v) w x turns ≡ cell_after t w x turns
  unfolding cell_after
  cell_same x zero full = refl
  cell_same x (suc j) full =
      let before = cell_same x j (λ i h. full i (omega arith)) in
      rw (before, get_or-set_other t c (cell_after t w x j) v 0 (λ y. full j (omega arith) (rw y free)))

  -- so they stay on the way
  way-still : {x d : ℕ} → OnWay t w x d → OnWay (set t c v) w x d
  way-still {x = x} o = record {
    turns = o.turns;
    cell = o.cell ∙ sym (cell_same x o.turns o.full);
    full = λ j h y.
        let same = cell_same x j (λ i g. o.full i (omega arith)) in
        let read = get_or-set_other t c (cell_after t w x j) v 0 (λ q. o.full j h (rw q free)) in
        o.full j h (sym read ∙ rw same at y);
  }

-- a number more takes the free cell where the search for its key came to
module _ {key key' : ℕ → ℕ} {w : Way} {t : List ℕ} {n x turns c : ℕ}
    (R : Planted key w t n) (P : Passed key t w x turns c)
    (free : get_or t c 0 ≡ 0) (room : w.most + 2 * (n + 1) + 2 ≤ length t)
    (old : (j : ℕ) → 1 ≤ j → j ≤ n → key' j ≡ key j) (new : key' (n + 1) ≡ x) where
  here : get_or (set t c (n + 1)) c 0 ≡ n + 1
  here = get_or-set_same t c (n + 1) 0 (passed-inside P R)

  else : (j : ℕ) → j ≢ c → get_or (set t c (n + 1)) j 0 ≡ get_or t j 0
  else j z = get_or-set_other t c j (n + 1) 0 z

  in_cells : (Q : ℕ → ℕ → Type 0) → Q c (n + 1) → ((j : ℕ) → get_or t j 0 ≢ 0 → Q j (get_or t j 0))
      → (j : ℕ) → get_or (set t c (n + 1)) j 0 ≢ 0 → Q j (get_or (set t c (n + 1)) j 0)
  in_cells Q own rest j z = eq-cases j c (λ q. rw (q, here) own) (λ q. rw (else j q) (rest j (λ y. z (else j q ∙ y))))

  its_own : (j : ℕ) → j ≢ c → get_or (set t c (n + 1)) j 0 ≢ n + 1
  its_own j q y =
      let there : get_or t j 0 ≡ n + 1 = sym (else j q) ∙ y in
      omega (arith, R.known j (λ y. omega arith))

  in_one : (i j : ℕ) → get_or (set t c (n + 1)) i 0 ≢ 0
      → get_or (set t c (n + 1)) i 0 ≡ get_or (set t c (n + 1)) j 0 → i ≡ j
  in_one i j z same =
      eq-cases i c
      (λ p. eq-cases j c (λ q. p ∙ sym q) (λ q. absurd (its_own j q (sym same ∙ rw p here))))
      (λ p. eq-cases j c (λ q. absurd (its_own i p (same ∙ rw q here)))
      (λ q. R.once i j (λ y. z (else i p ∙ y)) (sym (else i p) ∙ same ∙ else j q)))

  its-cell : (k : ℕ) → 1 ≤ k → k ≤ n + 1 → Stands (set t c (n + 1)) k
  its-cell k lo hi =
      eq-cases k (n + 1)
      (λ q. record { cell = c; has = here ∙ sym q })
      (λ q.
      let s = R.held k lo (omega arith) in
      let apart : s.cell ≢ c = λ y. omega (arith, s.has, rw (← y) at free) in
      record { cell = s.cell; has = else s.cell apart ∙ s.has })

  pub planted_more : Planted key' w (set t c (n + 1)) (n + 1)
  planted_more = record {
    parting = R.parting;
    room = rw (length-set t c (n + 1)) room;
    known = in_cells (λ j g. g ≤ n + 1) (omega arith) (λ j z. omega (arith, R.known j z));
    once = in_one;
    on_way = in_cells (λ j g. OnWay (set t c (n + 1)) w (key' g) j)
        (rw new (way-still t w c (n + 1) free (passed_way P)))
        (λ j z.
        rw (old (get_or t j 0) (omega arith) (R.known j z)) (way-still t w c (n + 1) free (R.on_way j z)));
    held = its-cell;
  }

-- ---- two ways

-- by remainder and quotient: a quotient is no more than what is divided
pub quotient-less : {m x v : ℕ} → 0 < m → x < v → x / m < v
quotient-less {m} {x} h k =
    let row : (x / m) * 1 ≤ (x / m) * m = mul-le-mul_left (x / m) h in
    omega (arith, div-add-mod x m, row)

pub quotient-parting : (most : ℕ) → 0 < most → Parting (by_quotient most)
quotient-parting most h = record {
  inside = λ x. mod-lt x h;
  apart = λ x y r q. sym (div-add-mod x most) ∙ rw (r, q) (div-add-mod y most);
}

-- by the middle bits of a product
pub product-parting : (most : ℕ) → 0 < most → Parting (by_product most)
product-parting most h = record {
  inside = λ x. omega (arith, and_le_r (2654435769 * x / 1048576) (most - 1));
  apart = λ x y r q. q;
}
