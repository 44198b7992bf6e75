-- The stands in memory after a call: the same, one replaced, one more, one less.
-- Assumes nothing.
use Rattle.std.proofs.Common.{◌≡◌, ◌≢◌, ℕ, zero, suc, ◌+◌, ◌*◌, ◌≤◌, ◌<◌, Bool, cond, eqb, List, length, get_or, get_or-set_other, get_or-set_same, set, refl, sym, ap, ◌∙◌, arith}
use Rattle.base.proofs.Tests.{bool_cases}
use Rattle.blocks.specs.declared.Entry.{Entry}
use Rattle.drafts.specs.Draft.{keep, without}
use Rattle.drafts.proofs.MemoryLaws.{entries-same}
use Rattle.drafts.proofs.PlaceLaws.{place-least}
use Rattle.drafts.specs.Answer.{place_of}
use Rattle.drafts.specs.Memory.{area, entries_at, stands_in}

-- stand i of one desk is stand j of another
pub record Same (m names counts m' names' counts' : List ℕ) (i j : ℕ) : Type 0 where
  pub number : get_or names' j 0 ≡ get_or names i 0
  pub count : get_or counts' j 0 ≡ get_or counts i 0
  pub bytes : (k : ℕ) → k < 8 * get_or counts i 0 → get_or m' (area j + k) 0 ≡ get_or m (area i + k) 0

module _ (m names counts m' names' counts' : List ℕ) where
  pub stands-by : (i j left : ℕ) → ((h : ℕ) → h < left → Same m names counts m' names' counts' (i + h) (j + h))
      → stands_in m' names' counts' j left ≡ stands_in m names counts i left
  unfolding stands_in
  stands-by i j zero each = refl
  stands-by i j (suc left) each =
      let a : i + 0 ≡ i = omega arith in
      let b : j + 0 ≡ j = omega arith in
      let s = rw (a, b) at (each 0 (omega arith)) in
      let e = entries-same m m' (area i) (area j) (get_or counts i 0) s.bytes in
      let r = stands-by (suc i) (suc j) left (λ h l.
      let p : suc i + h ≡ i + suc h = omega arith in
      let q : suc j + h ≡ j + suc h = omega arith in
      rw (p, q) (each (suc h) (omega arith))) in
      rw (s.number, s.count, e, r)

  -- the stand of a place dropped, and later ones moved down
  pub stands-without : (s j left i : ℕ) → i ≡ place_of s names j (suc left) → i < j + suc left
      → ((h : ℕ) → j ≤ h → h < i → Same m names counts m' names' counts' h h)
      → ((h : ℕ) → i ≤ h → h < j + left → Same m names counts m' names' counts' (suc h) h)
      → stands_in m' names' counts' j left ≡ without s (stands_in m names counts j (suc left))
  unfolding stands_in without place_of
  stands-without s j zero i at l before behind =
      bool_cases (eqb s (get_or names j 0))
      (λ q. rw q)
      (λ q. absurd (let z : i ≡ suc j = at ∙ rw (place_of, q) in omega arith))
  stands-without s j (suc left) i at l before behind =
      bool_cases (eqb s (get_or names j 0))
      (λ q.
      let z : i ≡ j = at ∙ rw (place_of, q) in
      rw q (stands-by (suc j) j (suc left) (λ h b.
      let p : suc j + h ≡ suc (j + h) = omega arith in
      rw p (behind (j + h) (omega arith) (omega arith)))))
      (λ q.
      let at' : i ≡ place_of s names (suc j) (suc left) = at ∙ ap (λ (b : Bool). cond b j (place_of s names (suc j) (suc left))) q in
      let least = place-least s names (suc j) (suc left) in
      let h = before j (omega arith) (omega arith) in
      let e = entries-same m m' (area j) (area j) (get_or counts j 0) h.bytes in
      let r = stands-without s (suc j) left i at' (omega arith) (λ k a b. before k (omega arith) b) (λ k a b. behind k a (omega arith)) in
      rw (q, h.number, h.count, e, r))

-- a number kept: over its stand, or behind the last
module _ (s n : ℕ) (v : List Entry) (m m' names counts : List ℕ) (i : ℕ) (ln : i < length names) (lc : i < length counts) (new : entries_at m' (area i) n ≡ v) where
  number-there : get_or (set names i s) i 0 ≡ s
  number-there = get_or-set_same names i s 0 ln

  count-there : get_or (set counts i n) i 0 ≡ n
  count-there = get_or-set_same counts i n 0 lc

  -- another stand whose bytes stay
  other : (h : ℕ) → h ≢ i → ((k : ℕ) → k < 8 * get_or counts h 0 → get_or m' (area h + k) 0 ≡ get_or m (area h + k) 0)
      → Same m names counts m' (set names i s) (set counts i n) h h
  other h z b = record { number = get_or-set_other names i h s 0 z; count = get_or-set_other counts i h n 0 z; bytes = b }

  pub stands-replaced : (j left : ℕ) → i ≡ place_of s names j left → i < j + left
      → ((h : ℕ) → j ≤ h → h < j + left → h ≢ i → (k : ℕ) → k < 8 * get_or counts h 0 → get_or m' (area h + k) 0 ≡ get_or m (area h + k) 0)
      → stands_in m' (set names i s) (set counts i n) j left ≡ keep s v (stands_in m names counts j left)
  unfolding stands_in keep place_of
  stands-replaced j zero at l same = absurd (let z : i ≡ j = at in omega arith)
  stands-replaced j (suc left) at l same =
      bool_cases (eqb s (get_or names j 0))
      (λ q.
      let z : i ≡ j = at ∙ rw (place_of, q) in
      let r = stands-by m names counts m' (set names i s) (set counts i n) (suc j) (suc j) left
      (λ h b. other (suc j + h) (λ e. omega arith) (same (suc j + h) (omega arith) (omega arith) (λ e. omega arith))) in
      let a : get_or (set names i s) j 0 ≡ s = ap (λ (k : ℕ). get_or (set names i s) k 0) (sym z) ∙ number-there in
      let b : get_or (set counts i n) j 0 ≡ n = ap (λ (k : ℕ). get_or (set counts i n) k 0) (sym z) ∙ count-there in
      let w : entries_at m' (area j) n ≡ v = ap (λ (k : ℕ). entries_at m' (area k) n) (sym z) ∙ new in
      rw (q, a, b, w, r))
      (λ q.
      let at' : i ≡ place_of s names (suc j) left = at ∙ ap (λ (b : Bool). cond b j (place_of s names (suc j) left)) q in
      let least = place-least s names (suc j) left in
      let h = other j (λ e. omega arith) (same j (omega arith) (omega arith) (λ e. omega arith)) in
      let e = entries-same m m' (area j) (area j) (get_or counts j 0) h.bytes in
      let r = stands-replaced (suc j) left at' (omega arith) (λ k a b z. same k (omega arith) (omega arith) z) in
      rw (q, h.number, h.count, e, r))

  pub stands-more : (j left : ℕ) → i ≡ place_of s names j left → i ≡ j + left
      → ((h : ℕ) → j ≤ h → h < j + left → (k : ℕ) → k < 8 * get_or counts h 0 → get_or m' (area h + k) 0 ≡ get_or m (area h + k) 0)
      → stands_in m' (set names i s) (set counts i n) j (suc left) ≡ keep s v (stands_in m names counts j left)
  unfolding stands_in keep place_of
  stands-more j zero at l same =
      let z : i ≡ j = omega arith in
      let a : get_or (set names i s) j 0 ≡ s = ap (λ (k : ℕ). get_or (set names i s) k 0) (sym z) ∙ number-there in
      let b : get_or (set counts i n) j 0 ≡ n = ap (λ (k : ℕ). get_or (set counts i n) k 0) (sym z) ∙ count-there in
      let w : entries_at m' (area j) n ≡ v = ap (λ (k : ℕ). entries_at m' (area k) n) (sym z) ∙ new in
      rw (a, b, w)
  stands-more j (suc left) at l same =
      bool_cases (eqb s (get_or names j 0))
      (λ q. absurd (let z : i ≡ j = at ∙ rw (place_of, q) in omega arith))
      (λ q.
      let at' : i ≡ place_of s names (suc j) left = at ∙ ap (λ (b : Bool). cond b j (place_of s names (suc j) left)) q in
      let h = other j (λ e. omega arith) (same j (omega arith) (omega arith)) in
      let e = entries-same m m' (area j) (area j) (get_or counts j 0) h.bytes in
      let r = stands-more (suc j) left at' (omega arith) (λ k a b. same k (omega arith) (omega arith)) in
      rw (q, h.number, h.count, e, r))
