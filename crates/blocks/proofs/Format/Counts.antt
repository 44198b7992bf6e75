-- How many blocks rows take, and how many rows each block uses.
-- Assumes nothing.
use Rattle.std.proofs.Common.{◌≡◌, ℕ, suc, ◌+◌, ◌-◌, ◌*◌, ◌<◌, ◌≤◌, true, ◌||◌, eqb, ltb, leb, ◌≢◌, ◌⊎◌, List, length, ◌∙◌, inl, inr, ⊎_elim, mul-le-mul_left, mul-zero, mul-suc, arith, length-drop, length-take}
use native.Mathlib.Nat.{div-eq_of_lt}
use Rattle.base.proofs.Split.{Split, split, row_below, row_of, place_of}
use Rattle.base.proofs.Tests.{ltb-lt, leb-le, le-leb, eqb-eq, eq-eqb, lt-ltb, ge-ltb, and_left, and_right, and_both, or_cases, or_left, or_right, eq-cases, lt-cases}
use Rattle.blocks.proofs.Format.Lawful.{Lawful}
use Rattle.blocks.proofs.Format.Sequence.{rows_in}
use Rattle.blocks.specs.Encoding.{blocks_for}
use Rattle.blocks.specs.Frame.{Frame, used_ok, entry_pos}

-- ---- what number 3 asks of the used count of block i of n

module _ (F : Frame) (n i u : ℕ) where
  -- a block before the last is full
  full-ok : suc i < n → u ≡ F.room → used_ok F n i u ≡ true
  unfolding used_ok
  full-ok h e = rw (lt-ltb h) (eq-eqb e)

  pub used-before : suc i < n → used_ok F n i u ≡ true → u ≡ F.room
  unfolding used_ok
  used-before h e = eqb-eq (rw (lt-ltb h) at e)

  -- the last block has room for what it uses, and uses some if it is not the only one
  last_ok : n ≡ suc i → u ≤ F.room → (0 < u) ⊎ (i ≡ 0) → used_ok F n i u ≡ true
  unfolding used_ok
  last_ok last small some =
      let h : n ≤ suc i = omega arith in
      rw (ge-ltb h)
      (and_both (le-leb small)
      (⊎_elim
      (λ (x : 0 < u). or_left (eqb n 1) (lt-ltb x))
      (λ (x : i ≡ 0). let e : n ≡ 1 = omega arith in or_right (ltb 0 u) (eq-eqb e))
      some))

  pub used-small : n ≡ suc i → used_ok F n i u ≡ true → u ≤ F.room
  unfolding used_ok
  used-small last e =
      let h : n ≤ suc i = omega arith in
      leb-le (and_left (leb u F.room) (ltb 0 u || eqb n 1) (rw (ge-ltb h) at e))

  pub used-some : n ≡ suc i → used_ok F n i u ≡ true → (0 < u) ⊎ (i ≡ 0)
  unfolding used_ok
  used-some last e =
      let h : n ≤ suc i = omega arith in
      or_cases (ltb 0 u) (eqb n 1) (and_right (leb u F.room) (ltb 0 u || eqb n 1) (rw (ge-ltb h) at e))
      (λ q. inl (ltb-lt q))
      (λ q. inr (let m : n ≡ 1 = eqb-eq q in omega arith))

-- ---- the counts of rows in blocks

module _ (F : Frame) (L : Lawful F) where
  -- a block for each full row of entries, and one more
  pub blocks-for : {c : ℕ} (p : Split F.room c) → blocks_for F c ≡ suc p.full
  unfolding blocks_for
  blocks-for {c} p =
      let r = F.room in
      eq-cases p.rest 0
      (λ (z : p.rest ≡ 0). let f : p.full ≡ 0 = ⊎_elim (λ (h : 0 < p.rest). absurd (omega arith)) (λ h. h) p.some in
      let e : c ≡ 0 = p.sum ∙ rw (f, z, mul-zero) in
      rw (div-eq_of_lt {n = c + r - 1} {m = r} (omega (arith, L.room-pos)), f))
      (λ (z : p.rest ≢ 0). let e : c + r - 1 ≡ r * suc p.full + (p.rest - 1) = omega (arith, p.sum, mul-suc r p.full) in
      rw (e, row_of {r = r} (suc p.full) (p.rest - 1) (omega (arith, p.small))) (omega arith))

  -- each block but the last is full, and the last uses the rest
  pub used-full : (rows : List (List ℕ)) (p : Split F.room (length rows)) (i : ℕ) → i < p.full → length (rows_in F rows i) ≡ F.room
  used-full rows p i h = simp (length-take, length-drop) (omega (arith, p.sum, row_below F.room h))

  pub used-last : (rows : List (List ℕ)) (p : Split F.room (length rows)) → length (rows_in F rows p.full) ≡ p.rest
  used-last rows p = simp (length-take, length-drop) (omega (arith, p.sum, p.small))

  -- the offset of row j of block i
  pub place_in : (i j : ℕ) → j < F.room → entry_pos F (suc (F.room * i + j)) ≡ 512 * i + 4 + F.width * j
  unfolding entry_pos
  place_in i j h =
      let e : suc (F.room * i + j) - 1 ≡ F.room * i + j = omega arith in
      rw (e, row_of i j h, place_of i j h)

  -- every block uses as many entries as it should
  pub used-right : (rows : List (List ℕ)) (p : Split F.room (length rows)) (i : ℕ) → i < suc p.full
      → used_ok F (suc p.full) i (length (rows_in F rows i)) ≡ true
  used-right rows p i h =
      lt-cases i p.full
      (λ b. full-ok F (suc p.full) i (length (rows_in F rows i)) (omega arith) (used-full rows p i b))
      (λ b. let e : i ≡ p.full = omega arith in
      rw (e, used-last rows p) (last_ok F (suc p.full) p.full p.rest (omega arith) p.small p.some))

  -- c entries that m blocks have room for take at most m
  pub blocks-limit : (c m : ℕ) → 0 < m → c ≤ F.room * m → blocks_for F c ≤ m
  blocks-limit c m pos h =
      let p : Split F.room c = split c L.room-pos in
      let e = blocks-for p in
      lt-cases p.full m
      (λ b. omega arith)
      (λ b. ⊎_elim
      (λ (x : 0 < p.rest). absurd (omega (arith, mul-le-mul_left F.room b, p.sum)))
      (λ (x : p.full ≡ 0). omega arith)
      p.some)
