-- What is to be added to C for a yes: C with D cut down to the marked entries is contained in D, says what C and D say
-- together, and no marked entry of a kind other than 5 can be left out; nothing is marked exactly where C is contained
-- in D; and each marked entry fails.
-- Assumes nothing.
use Prim.Native.Nat.{◌<◌, ◌≤◌, suc, zero, ℕ}
use lib.Dec.{eqb}
use lib.ListN.{length}
use mathlib.Core.Bool.{Bool, false, not, true}
use mathlib.Core.List.{List}
use mathlib.Core.Logic.{◌≢◌, ◌↔◌}
use mathlib.Core.Path.{◌∙◌, ◌≡◌, refl, sym}
use native.Mathlib.Omega.{arith}
use Rattle.base.proofs.Missing.{not-true}
use Rattle.base.proofs.Tests.{and_both, and_left, and_right, bool_cases, both_ways, eq-cases, eq-eqb, eqb-eq, false_of_not, iff-eq, ne_eqb, neither_left, not-to-false, not-to-true, or-none, or_left, true_of_not}
use Rattle.blocks.proofs.Refusing.Legal.{owner-kind}
use Rattle.blocks.specs.Entries.{nth}
use Rattle.blocks.specs.Owners.{owner_of}
use Rattle.blocks.specs.Promise.{Legal}
use Rattle.blocks.specs.declared.Entry.{Entry}
use Rattle.blocks.specs.declared.Schema.TheVariants.{Description}
use Rattle.logic.specs.Background.{Background, Keeps, LawfulBackground}
use Rattle.logic.specs.Meaning.{Equivalent}
use Rattle.logic.specs.Record.{Record, fits}
use Rattle.meaning.proofs.Descriptions.Paths.{fits-paths, paths-fit}
use Rattle.meaning.proofs.Verdicts.Contained.{contained-all}
use Rattle.meaning.specs.Description.{place_of}
use Rattle.meaning.specs.Promise.{EntailsEntry, Subsumed}
use Rattle.narrow.proofs.Keeping.Cut.{cut-exactly, legal-cut}
use Rattle.narrow.proofs.Keeping.Earning.{keeps-marked, marks-owner, owns-every}
use Rattle.narrow.proofs.Missing.Failings.{fails-entailed}
use Rattle.narrow.proofs.Missing.BothEntries.{joined-exactly}
use Rattle.narrow.proofs.Keeping.KeepLaws.{Part, kept-needed, kept-part, kept-passes}
use Rattle.narrow.proofs.Keeping.Thinned.{fits-exactly, legal-thinned, thinner-subsumed}
use Rattle.narrow.proofs.Keeping.Turns.{turn-kept, turn-passes}
use Rattle.narrow.specs.Earned.{sayers}
use Rattle.narrow.specs.Keeping.{cut, marked, owns_kept, thinned, without}
use Rattle.narrow.specs.Missing.{both, completes, fails_at, lacking, missing, turning}

module _ {b : Background} (law : LawfulBackground b) (c d : List Entry) (C : Legal Description c) (D : Legal Description d) where
  abbrev P : (ℕ → Bool) → Bool
  P = completes b c d

  -- C with what is kept of D, as one place
  abbrev pub With : (ℕ → Bool) → List Entry
  With K = both c (thinned K 1 d)

  -- an item fits it exactly if it fits C and meets what is kept of D
  pub with-exactly : (K : ℕ → Bool) (r : Record) (x : ℕ) → (fits r (place_of (With K) 0) x ≡ true)
      ↔ ((fits r (place_of c 0) x ≡ true) × (fits r (place_of (thinned K 1 d) 0) x ≡ true))
  with-exactly K r x = joined-exactly c (thinned K 1 d) C (legal-thinned K d D) r x

  pub completes-subsumed : (K : ℕ → Bool) → (P K ≡ true) ↔ Subsumed b (place_of (With K) 0) (place_of d 0)
  completes-subsumed K = let x = contained-all law (With K) d D in (λ e. x.0 (eqb-eq e), λ f. eq-eqb (x.1 f))

  -- the more is kept, the fewer items fit
  more-kept : (K M : ℕ → Bool) → Part K M → Subsumed b (place_of (With M) 0) (place_of (With K) 0)
  more-kept K M p r kept x i h =
      let y = (with-exactly M r x).0 h in
      (with-exactly K r x).1 (y.0, thinner-subsumed {b = b} K M d D p r kept x i y.1)

  pub more : (K M : ℕ → Bool) → Part K M → P K ≡ true → P M ≡ true
  more K M p e = (completes-subsumed M).1 (λ r kept x i h. (completes-subsumed K).0 e r kept x i (more-kept K M p r kept x i h))

  -- all of D
  pub all-complete : P (sayers d) ≡ true
  all-complete =
      (completes-subsumed (sayers d)).1
      (λ r kept x i h.
      paths-fit r d D x
      (λ n lo hi z. (fits-exactly (sayers d) d D r x).0 ((with-exactly (sayers d) r x).0 h).1 n lo hi z (not-to-true (ne_eqb z))))

  -- a cut by marks that keep K, added, is enough exactly if K is
  cut-completes : (M K : ℕ → Bool) → ((n : ℕ) → 1 ≤ n → n ≤ length d → K n ≡ true → M n ≡ true)
      → ((n : ℕ) → 1 ≤ n → n ≤ length d → M n ≡ true → owner_of d n ≢ 0 → M (owner_of d n) ≡ true)
      → ((n : ℕ) → 1 ≤ n → n ≤ length d → M n ≡ true → (nth d n).kind ≢ 5 → K n ≡ true)
      → Subsumed b (place_of (both c (cut M 0 d)) 0) (place_of d 0) ↔ (P K ≡ true)
  cut-completes M K a o k = (
    λ f. (completes-subsumed K).1
        (λ r kept x i h.
        let y = (with-exactly K r x).0 h in
        f r kept x i ((joined-exactly c (cut M 0 d) C (legal-cut M K d D a o k) r x).1 (y.0, (cut-exactly M K d D a o k r x).1 ((fits-exactly K d D r x).0 y.1)))),
    λ e r kept x i h.
        let y = (joined-exactly c (cut M 0 d) C (legal-cut M K d D a o k) r x).0 h in
        (completes-subsumed K).0 e r kept x i ((with-exactly K r x).1 (y.0, (fits-exactly K d D r x).1 ((cut-exactly M K d D a o k r x).0 y.1))),
  )

  abbrev L : ℕ → Bool
  L = lacking b c d

  pub lacking-passes : P L ≡ true
  unfolding lacking
  lacking-passes = kept-passes P (length d) (sayers d) all-complete

  marks-kept : (n : ℕ) → 1 ≤ n → n ≤ length d → L n ≡ true → marked L d n ≡ true
  marks-kept n lo hi k = or_left _ k

  -- ---- the promises

  -- the cut is a description
  pub addition-legal : Legal Description (cut (missing b c d) 0 d)
  unfolding missing
  addition-legal = legal-cut (marked L d) L d D marks-kept (marks-owner d D L) (keeps-marked d D L)

  -- C with the addition is contained in D
  pub missing-enough : Subsumed b (place_of (both c (cut (missing b c d) 0 d)) 0) (place_of d 0)
  unfolding missing
  missing-enough = (cut-completes (marked L d) L marks-kept (marks-owner d D L) (keeps-marked d D L)).1 lacking-passes

  -- the same in words of items: what fits C and the addition fits D
  pub addition-enough : (r : Record) → Keeps b r → (x : ℕ) → x < r.size → fits r (place_of c 0) x ≡ true
      → fits r (place_of (cut (missing b c d) 0 d) 0) x ≡ true → fits r (place_of d 0) x ≡ true
  addition-enough r kept x i h g =
      missing-enough r kept x i ((joined-exactly c (cut (missing b c d) 0 d) C addition-legal r x).1 (h, g))

  -- an item that fits D fits the addition, whatever the background
  pub addition-of : (r : Record) (x : ℕ) → fits r (place_of d 0) x ≡ true → fits r (place_of (cut (missing b c d) 0 d) 0) x ≡ true
  unfolding missing
  addition-of r x h =
      (cut-exactly (marked L d) L d D marks-kept (marks-owner d D L) (keeps-marked d D L) r x).1 (λ n lo hi z k. fits-paths r d D x h n lo hi z)

  -- so C with the addition says what C and D say together
  pub missing-same : Equivalent b (place_of (both c (cut (missing b c d) 0 d)) 0) (place_of (both c d) 0)
  missing-same r kept x i =
      let E = joined-exactly c (cut (missing b c d) 0 d) C addition-legal r x in
      let F = joined-exactly c d C D r x in
      iff-eq
      (λ h. F.1 ((E.0 h).0, missing-enough r kept x i h))
      (λ h. E.1 ((F.0 h).0, addition-of r x (F.0 h).1))

  -- without any one entry of the set it is not
  pub missing-needed : (n : ℕ) → 1 ≤ n → n ≤ length d → (nth d n).kind ≢ 5 → missing b c d n ≡ true
      → Subsumed b (place_of (both c (cut (without n (missing b c d)) 0 d)) 0) (place_of d 0) → ⊥
  unfolding missing lacking
  missing-needed n lo hi z m f =
      let k : L n ≡ true = unfold lacking in keeps-marked d D L n lo hi m z in
      both_ways
      ((cut-completes (without n (marked L d)) (without n L)
      (λ j l h e. and_both (or_left _ (and_left (L j) (not (eqb j n)) e)) (and_right (L j) (not (eqb j n)) e))
      (λ j l h e y. and_both (marks-owner d D L j l h (and_left (marked L d j) (not (eqb j n)) e) y)
      (not-to-true (ne_eqb (λ q. z (rw (← q) (owner-kind D j l h y))))))
      (λ j l h e y. and_both (keeps-marked d D L j l h (and_left (marked L d j) (not (eqb j n)) e) y) (and_right (marked L d j) (not (eqb j n)) e))).0 f)
      (kept-needed P more (length d) (sayers d) n lo hi k)

  -- ---- nothing

  abbrev none-kept : ℕ → Bool
  none-kept k = false

  -- C itself
  none-complete : (P none-kept ≡ true) ↔ Subsumed b (place_of c 0) (place_of d 0)
  none-complete = (
    λ e r kept x i h. (completes-subsumed none-kept).0 e r kept x i ((with-exactly none-kept r x).1 (h, (fits-exactly none-kept d D r x).1 (λ n lo hi z k. both_ways k refl))),
    λ f. (completes-subsumed none-kept).1 (λ r kept x i h. f r kept x i ((with-exactly none-kept r x).0 h).0),
  )

  -- an entry that C says is not marked: each that is marked fails
  pub said-goes : (n : ℕ) → 1 ≤ n → n ≤ length d → (nth d n).kind ≢ 5 → EntailsEntry b (place_of c 0) d n → L n ≡ false
  unfolding lacking
  said-goes n lo hi z f =
      not-true (λ k.
      both_ways
      ((completes-subsumed (without n L)).1
      (λ r kept x i h.
      let y = (with-exactly (without n L) r x).0 h in
      (completes-subsumed L).0 lacking-passes r kept x i
      ((with-exactly L r x).1 (
        y.0,
        (fits-exactly L d D r x).1
            (λ j l u w m. eq-cases j n
            (λ q. rw q (f r kept x i y.0))
            (λ q. (fits-exactly (without n L) d D r x).0 y.1 j l u w (and_both m (not-to-true (ne_eqb q))))),
      ))))
      (unfold lacking in kept-needed P more (length d) (sayers d) n lo hi k))

  pub missing-fails : (n : ℕ) → 1 ≤ n → n ≤ length d → (nth d n).kind ≢ 5 → missing b c d n ≡ true → fails_at b c d n ≡ true
  unfolding missing
  missing-fails n lo hi z m =
      bool_cases (fails_at b c d n) (λ q. q)
      (λ q. both_ways (keeps-marked d D L n lo hi m z) (said-goes n lo hi z ((fails-entailed law c d n z).0 q)))

  lacking-sayers : (n : ℕ) → L n ≡ true → (nth d n).kind ≢ 5
  unfolding lacking
  lacking-sayers n k z = both_ways (eq-eqb z) (false_of_not (eqb (nth d n).kind 5) (kept-part P (length d) (sayers d) n (unfold lacking in k)))

  none-owned : (n m : ℕ) → ((j : ℕ) → 1 ≤ j → j ≤ m → L j ≡ false) → owns_kept L d n m ≡ false
  unfolding owns_kept
  none-owned n zero f = refl
  none-owned n (suc m) f = rw (f (suc m) (omega arith) (omega arith)) (none-owned n m (λ j lo hi. f j lo (omega arith)))

  -- nothing is marked exactly if C is contained in D
  pub missing-none : ((n : ℕ) → 1 ≤ n → n ≤ length d → missing b c d n ≡ false) ↔ Subsumed b (place_of c 0) (place_of d 0)
  unfolding missing
  missing-none = (
    λ f r kept x i h. (completes-subsumed L).0 lacking-passes r kept x i
        ((with-exactly L r x).1 (h, (fits-exactly L d D r x).1 (λ n lo hi z k. both_ways (marks-kept n lo hi k) (f n lo hi)))),
    λ s n lo hi.
        let gone : (j : ℕ) → 1 ≤ j → j ≤ length d → L j ≡ false
        = λ j l u. not-true (λ k. both_ways k (said-goes j l u (lacking-sayers j k) (λ r kept x i h. fits-paths r d D x (s r kept x i h) j l u (lacking-sayers j k)))) in
        or-none (gone n lo hi) (none-owned n (length d) gone),
  )

  -- ---- one by one

  -- where C with a set of D's entries is contained in D, one of them may go exactly if C with the others says that one:
  -- no other entry of D counts
  pub leave-one : (T : ℕ → Bool) → P T ≡ true → (n : ℕ) → 1 ≤ n → n ≤ length d → (nth d n).kind ≢ 5
      → (P (without n T) ≡ true) ↔ EntailsEntry b (place_of (With (without n T)) 0) d n
  leave-one T p n lo hi z = (
    λ e r kept x i h. fits-paths r d D x ((completes-subsumed (without n T)).0 e r kept x i h) n lo hi z,
    λ f. (completes-subsumed (without n T)).1
        (λ r kept x i h.
        let y = (with-exactly (without n T) r x).0 h in
        (completes-subsumed T).0 p r kept x i
        ((with-exactly T r x).1 (
          y.0,
          (fits-exactly T d D r x).1
              (λ j l u w m. eq-cases j n
              (λ q. rw q (f r kept x i h))
              (λ q. (fits-exactly (without n T) d D r x).0 y.1 j l u w (and_both m (not-to-true (ne_eqb q))))),
        ))),
  )

  -- what stands when entry n has its turn: all entries of D up to n, and those after it that are marked
  abbrev pub standing_at : ℕ → ℕ → Bool
  standing_at n = turning n L (sayers d)

  -- a marked entry is one that C does not say with those of D before it and the marked ones after it
  pub missing-each : (n : ℕ) → 1 ≤ n → n ≤ length d → (nth d n).kind ≢ 5
      → (missing b c d n ≡ false) ↔ EntailsEntry b (place_of (With (without n (standing_at n))) 0) d n
  unfolding missing lacking
  missing-each n lo hi z =
      let p : P (standing_at n) ≡ true = unfold lacking in turn-passes P (length d) (sayers d) n hi all-complete in
      let k : L n ≡ not (P (without n (standing_at n))) = unfold lacking in turn-kept P (length d) (sayers d) n lo hi (not-to-true (ne_eqb z)) in
      let x = leave-one (standing_at n) p n lo hi z in (
        λ e. x.0 (true_of_not (P (without n (standing_at n))) (sym k ∙ neither_left (L n) (owns_kept L d n (length d)) e)),
        λ f. or-none (k ∙ not-to-false (x.1 f)) (not-true (λ m. z (owns-every d D L n (length d) (omega arith) m))),
      )
