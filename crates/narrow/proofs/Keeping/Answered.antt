-- Leaving out from the last to the first, where a set passes exactly if each question that is asked is answered by a
-- number of it: a number is kept exactly where it is the first to answer one that no kept number after it answers. So
-- what is left is found in one walk, without trying any set.
-- Assumes nothing.
use Prim.Native.Nat.{◌+◌, ◌<◌, ◌≤◌, suc, zero, ℕ}
use lib.Dec.{eqb, leb, ltb}
use mathlib.Core.Bool.{Bool, ◌&&◌, ◌||◌, false, false≢true, not, true}
use mathlib.Core.Logic.{◌≢◌, ◌↔◌}
use mathlib.Core.Path.{◌∙◌, ◌≡◌, ap, refl, sym}
use native.Mathlib.Omega.{arith}
use Rattle.base.proofs.Missing.{not-true}
use Rattle.base.proofs.SearchLaws.{Least, first-least, first-none}
use Rattle.base.proofs.Tests.{and_both, and_left, and_right, bool_cases, both_ways, eq-cases, eq-eqb, eqb-eq, false_of_not, lt-cases, not-to-false, not-to-true, or_cases, or_left, or_right, true_of_not, tests}
use Rattle.narrow.proofs.Keeping.KeepLaws.{kept-part}
use Rattle.narrow.proofs.Keeping.Turns.{turn-kept, turn-passes}
use Rattle.narrow.specs.Keeping.{keep_from, without}
use Rattle.narrow.specs.Missing.{turning}
use Rattle.narrow.specs.Tellers.{answered, first_to, some_to, taken, wanted}

-- ---- some number of a set

-- a number of the set, from 1 to n
pub record Found (f : ℕ → Bool) (n : ℕ) : Type 0 where
  pub number : ℕ
  pub from_one : 1 ≤ number
  pub to_last : number ≤ n
  pub holds : f number ≡ true

pub some-to : (f : ℕ → Bool) (n k : ℕ) → 1 ≤ k → k ≤ n → f k ≡ true → some_to f n ≡ true
unfolding some_to
some-to f zero k lo hi e = absurd (omega arith)
some-to f (suc n) k lo hi e =
    eq-cases k (suc n)
    (λ z. or_left (some_to f n) (rw (← z) e))
    (λ z. or_right (f (suc n)) (some-to f n k lo (omega arith) e))

pub to-some : (f : ℕ → Bool) (n : ℕ) → some_to f n ≡ true → Found f n
unfolding some_to
to-some f zero e = absurd (false≢true e)
to-some f (suc n) e =
    or_cases (f (suc n)) (some_to f n) e
    (λ q. record { number = suc n; from_one = omega arith; to_last = omega arith; holds = q })
    (λ q. let r = to-some f n q in record { number = r.number; from_one = r.from_one; to_last = omega (arith, r.to_last); holds = r.holds })

-- sets that are the same from 1 to n
some-same : (f g : ℕ → Bool) (n : ℕ) → ((k : ℕ) → 1 ≤ k → k ≤ n → f k ≡ g k) → some_to f n ≡ some_to g n
unfolding some_to
some-same f g zero h = refl
some-same f g (suc n) h = rw (h (suc n) (omega arith) (omega arith), some-same f g n (λ k lo hi. h k lo (omega arith)))

-- the first of a set of which some number is one
pub first-found : (f : ℕ → Bool) (n k : ℕ) → 1 ≤ k → k ≤ n → f k ≡ true → Least (λ i. not (f i)) 1 (1 + n) (first_to f n)
first-found f n k lo hi e =
    first-least (λ i. not (f i)) 1 n refl
    (λ z. both_ways (first-none (λ i. not (f i)) 1 n (omega arith) z k lo (omega arith)) (not-to-false e))

-- the numbers of a set after n
abbrev pub after : ℕ → (ℕ → Bool) → ℕ → Bool
after n K k = ltb n k && K k

module _ (P : (ℕ → Bool) → Bool) (ask : ℕ → Bool) (tell : ℕ → ℕ → Bool) (N J : ℕ) where
  -- a set passes exactly if each question that is asked is answered by a number of it
  abbrev pub Exact : Type 0
  Exact = (K : ℕ → Bool) → (P K ≡ true) ↔ ((j : ℕ) → 1 ≤ j → j ≤ J → ask j ≡ true → answered tell N K j ≡ true)

  abbrev W : (ℕ → Bool) → ℕ → Bool
  W = wanted ask tell N J

  -- a question that n is the first to answer, and the set does not
  record Wants (K : ℕ → Bool) (n : ℕ) : Type 0 where
    pub question : ℕ
    pub from_one : 1 ≤ question
    pub to_last : question ≤ J
    pub asked : ask question ≡ true
    pub first : first_to (tell question) N ≡ n
    pub open' : answered tell N K question ≡ false

  wants : (K : ℕ → Bool) (n : ℕ) → W K n ≡ true → Wants K n
  unfolding wanted
  wants K n e =
      let r = to-some (λ j. ask j && (eqb (first_to (tell j) N) n && not (answered tell N K j))) J e in
      let j : ℕ = r.number in
      let q = and_right (ask j) (eqb (first_to (tell j) N) n && not (answered tell N K j)) r.holds in
      record {
        question = j;
        from_one = r.from_one;
        to_last = r.to_last;
        asked = and_left (ask j) (eqb (first_to (tell j) N) n && not (answered tell N K j)) r.holds;
        first = eqb-eq (and_left (eqb (first_to (tell j) N) n) (not (answered tell N K j)) q);
        open' = false_of_not (answered tell N K j) (and_right (eqb (first_to (tell j) N) n) (not (answered tell N K j)) q);
      }

  -- one that it is the first to answer, if n is not wanted, the set answers
  unwanted : (K : ℕ → Bool) (n j : ℕ) → W K n ≡ false → 1 ≤ j → j ≤ J → ask j ≡ true → first_to (tell j) N ≡ n → answered tell N K j ≡ true
  unfolding wanted
  unwanted K n j e lo hi a f =
      bool_cases (answered tell N K j)
      (λ q. q)
      (λ q. both_ways (some-to (λ i. ask i && (eqb (first_to (tell i) N) n && not (answered tell N K i))) J j lo hi (and_both a (and_both (eq-eqb f) (not-to-true q)))) e)

  -- what is not in range does not count
  wanted-same : (K L : ℕ → Bool) (n : ℕ) → ((k : ℕ) → 1 ≤ k → k ≤ N → K k ≡ L k) → W K n ≡ W L n
  unfolding wanted
  wanted-same K L n h =
      some-same _ _ J
      (λ j lo hi. ap (λ (x : Bool). ask j && (eqb (first_to (tell j) N) n && not x)) (some-same _ _ N (λ k l g. ap (λ (x : Bool). x && tell j k) (h k l g))))

  module _ (exact : Exact) (S : ℕ → Bool) (says : (j k : ℕ) → tell j k ≡ true → S k ≡ true) (whole : P S ≡ true) where
    abbrev F : ℕ → Bool
    F = keep_from P N S

    -- what stands at the turn of n
    abbrev T : ℕ → ℕ → Bool
    T n = turning n F S

    -- an answer that stands without n at its turn comes before it, or is kept and comes after it
    stands-before : (n k : ℕ) → k < n → S k ≡ true → without n (T n) k ≡ true
    stands-before n k h s =
        let z : leb k n ≡ true = omega tests in
        let y : eqb k n ≡ false = omega tests in
        rw (z, s, y)

    stands-after : (n k : ℕ) → n < k → without n (T n) k ≡ F k
    stands-after n k h =
        let z : leb k n ≡ false = omega tests in
        let y : eqb k n ≡ false = omega tests in
        rw (z, y) (one (F k))
      where
        one : (x : Bool) → (x && true) ≡ x
        one true = refl
        one false = refl

    -- where n is not wanted, it goes
    goes : (n : ℕ) → n ≤ N → W (after n F) n ≡ false → P (without n (T n)) ≡ true
    goes n hi e = (exact (without n (T n))).1 each
      where
        each : (j : ℕ) → 1 ≤ j → j ≤ J → ask j ≡ true → answered tell N (without n (T n)) j ≡ true
        each j lo up a =
            let g : ℕ → Bool = λ k. without n (T n) k && tell j k in
            let r = to-some (λ k. T n k && tell j k) N ((exact (T n)).0 (turn-passes P N S n hi whole) j lo up a) in
            let k : ℕ = r.number in
            let t : tell j k ≡ true = and_right (T n k) (tell j k) r.holds in
            let l = first-found (tell j) N k r.from_one r.to_last t in
            let f : ℕ = first_to (tell j) N in
            let tf : tell j f ≡ true = true_of_not (tell j f) l.fails in
            lt-cases f n
            (λ q. some-to g N f l.low (omega (arith, l.high)) (and_both (stands-before n f q (says j f tf)) tf))
            (λ q. eq-cases f n
            (λ z.
            let s = to-some (λ i. after n F i && tell j i) N (unwanted (after n F) n j e lo up a z) in
            let i : ℕ = s.number in
            let c : after n F i ≡ true = and_left (after n F i) (tell j i) s.holds in
            let h : ltb n i ≡ true = and_left (ltb n i) (F i) c in
            some-to g N i s.from_one s.to_last
            (and_both (stands-after n i (omega tests) ∙ and_right (ltb n i) (F i) c) (and_right (after n F i) (tell j i) s.holds)))
            (λ z.
            lt-cases k f
            (λ y. both_ways t (true-not (tell j k) (l.before k r.from_one y)))
            (λ y.
            let h : leb k n ≡ false = omega tests in
            let x : F k ≡ true = rw h at (and_left (T n k) (tell j k) r.holds) in
            some-to g N k r.from_one r.to_last (and_both (stands-after n k (omega arith) ∙ x) t))))
          where
            true-not : (x : Bool) → not x ≡ true → x ≡ false
            true-not x e = false_of_not x e

    -- where it is wanted, it stays
    stays : (n : ℕ) → P (without n (T n)) ≡ true → W (after n F) n ≡ false
    stays n e =
        not-true (λ w.
        let u = wants (after n F) n w in
        let j : ℕ = u.question in
        let r = to-some (λ k. without n (T n) k && tell j k) N ((exact (without n (T n))).0 e j u.from_one u.to_last u.asked) in
        let k : ℕ = r.number in
        let s : without n (T n) k ≡ true = and_left (without n (T n) k) (tell j k) r.holds in
        let t : tell j k ≡ true = and_right (without n (T n) k) (tell j k) r.holds in
        let l = first-found (tell j) N k r.from_one r.to_last t in
        lt-cases k n
        (λ q. both_ways t (false_of_not (tell j k) (l.before k r.from_one (rw u.first q))))
        (λ q.
        let z : eqb k n ≡ false = false_of_not (eqb k n) (and_right (T n k) (not (eqb k n)) s) in
        let h : n < k = omega tests in
        let y : ltb n k ≡ true = omega tests in
        both_ways
        (some-to (λ i. after n F i && tell j i) N k r.from_one r.to_last
        (and_both (and_both y (sym (stands-after n k h) ∙ s)) t)) u.open'))

    -- a number is kept exactly if it is wanted beside the kept numbers after it
    pub kept-wanted : (n : ℕ) → 1 ≤ n → n ≤ N → F n ≡ W (after n F) n
    kept-wanted n lo hi =
        bool_cases (S n)
        (λ s.
        let k : F n ≡ not (P (without n (T n))) = turn-kept P N S n lo hi s in
        bool_cases (P (without n (T n)))
        (λ q. k ∙ rw (q, stays n q))
        (λ q. k ∙ bool_cases (W (after n F) n)
        (λ w. rw (q, w))
        (λ w. both_ways (goes n hi w) q)))
        (λ s.
        let f : F n ≡ false = not-true (λ w. both_ways (kept-part P N S n w) s) in
        f ∙ sym (not-true (λ w.
        let u = wants (after n F) n w in
        let j : ℕ = u.question in
        let r = to-some (λ k. S k && tell j k) N ((exact S).0 whole j u.from_one u.to_last u.asked) in
        let t : tell j r.number ≡ true = and_right (S r.number) (tell j r.number) r.holds in
        let l = first-found (tell j) N r.number r.from_one r.to_last t in
        let y : tell j (first_to (tell j) N) ≡ true = true_of_not _ l.fails in
        both_ways (says j n (rw u.first at y)) s)))

    -- so one walk finds what is left
    walked : (m : ℕ) (K : ℕ → Bool) → m ≤ N → ((k : ℕ) → 1 ≤ k → k ≤ N → K k ≡ after m F k) → (k : ℕ) → 1 ≤ k → k ≤ N → taken W m K k ≡ F k
    unfolding taken
    walked zero K h e k lo hi = let z : ltb 0 k ≡ true = omega tests in e k lo hi ∙ rw z
    walked (suc m) K h e i first last =
        walked m (λ k. K k || (eqb k (suc m) && W K (suc m))) (omega arith)
        (λ k lo hi.
        let w : W K (suc m) ≡ F (suc m) = wanted-same K (after (suc m) F) (suc m) e ∙ sym (kept-wanted (suc m) (omega arith) h) in
        eq-cases k (suc m)
        (λ z.
        let a : ltb (suc m) (suc m) ≡ false = omega tests in
        let c : eqb (suc m) (suc m) ≡ true = omega tests in
        let d : ltb m (suc m) ≡ true = omega tests in
        let o : K (suc m) ≡ false = e (suc m) (omega arith) h ∙ rw a in
        rw (z, o, w, c, d))
        (λ z.
        let c : eqb k (suc m) ≡ false = omega tests in
        rw c (none (K k) ∙ e k lo hi ∙ ap (λ (x : Bool). x && F k) (past k m z))))
        i first last
      where
        none : (x : Bool) → (x || false) ≡ x
        none true = refl
        none false = refl

        past : (k m : ℕ) → k ≢ suc m → ltb (suc m) k ≡ ltb m k
        past k m z =
            lt-cases m k
            (λ q. let a : ltb (suc m) k ≡ true = omega tests in let c : ltb m k ≡ true = omega tests in a ∙ sym c)
            (λ q. let a : ltb (suc m) k ≡ false = omega tests in let c : ltb m k ≡ false = omega tests in a ∙ sym c)

    pub kept-taken : (k : ℕ) → 1 ≤ k → k ≤ N → F k ≡ taken W N (λ i. false) k
    kept-taken k lo hi =
        sym (walked N (λ i. false) (omega arith) (λ i l h. let z : ltb N i ≡ false = omega tests in rw z) k lo hi)
