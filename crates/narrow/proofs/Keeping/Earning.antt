-- The entries that earn a yes: C cut down to them is contained in D, and without any one of them that is no 'every' it
-- is not.
-- Assumes nothing.
use Prim.Native.Nat.{◌≤◌, suc, zero, ℕ}
use lib.Dec.{eqb}
use lib.ListN.{length}
use mathlib.Core.Bool.{Bool, ◌&&◌, false≢true, not, true}
use mathlib.Core.List.{List}
use mathlib.Core.Logic.{◌≢◌, ◌↔◌}
use mathlib.Core.Path.{◌≡◌, refl, subst, sym}
use native.Mathlib.Omega.{arith}
use Rattle.base.proofs.Tests.{and_both, and_left, and_right, both_ways, eq-cases, eq-eqb, eqb-eq, ne_eqb, not-to-true, or_cases, or_left, or_right}
use Rattle.blocks.proofs.Refusing.Legal.{owner-earlier, owner-kind}
use Rattle.blocks.specs.Entries.{nth}
use Rattle.blocks.specs.Owners.{owner_of}
use Rattle.blocks.specs.Promise.{Legal}
use Rattle.blocks.specs.declared.Entry.{Entry}
use Rattle.blocks.specs.declared.Schema.TheVariants.{Description}
use Rattle.logic.specs.Background.{Background, LawfulBackground}
use Rattle.logic.specs.Record.{Record, along, fits, meets}
use Rattle.meaning.proofs.Descriptions.Paths.{paths-fit}
use Rattle.meaning.proofs.Verdicts.Contained.{contained-all}
use Rattle.meaning.specs.Description.{atom_of, links_to, place_of}
use Rattle.meaning.specs.Failing.{failing}
use Rattle.meaning.specs.Promise.{Subsumed}
use Rattle.narrow.proofs.Keeping.Cut.{cut-exactly, legal-cut}
use Rattle.narrow.proofs.Keeping.KeepLaws.{Part, kept-needed, kept-passes}
use Rattle.narrow.proofs.Keeping.Thinned.{fits-exactly, thinner-subsumed}
use Rattle.narrow.specs.Earned.{earned, earners, sayers, suffices}
use Rattle.narrow.specs.Keeping.{above, cut, marked, owns_kept, thinned, without}

-- ---- owners of kept entries

module _ (es : List Entry) (L : Legal Description es) where
  above-every : (f n k : ℕ) → 1 ≤ k → k ≤ length es → above es f n k ≡ true → (nth es n).kind ≡ 5
  unfolding above
  above-every zero n k lo hi e = absurd (false≢true e)
  above-every (suc f) n k lo hi e =
      eq-cases (owner_of es k) 0
      (λ z. absurd (false≢true (rw (eq-eqb z) at e)))
      (λ z. or_cases (eqb (owner_of es k) n) (above es f n (owner_of es k)) (rw (ne_eqb z) at e)
      (λ q. let i : owner_of es k ≡ n = eqb-eq q in rw (← i) (owner-kind L k lo hi z))
      (λ q. above-every f n (owner_of es k) (omega arith) (omega (arith, owner-earlier L k lo hi)) q))

  above-owner : (f n k : ℕ) → 1 ≤ k → k ≤ length es → k ≤ f → above es f n k ≡ true → owner_of es n ≢ 0 → above es f (owner_of es n) k ≡ true
  unfolding above
  above-owner zero n k lo hi h e y = absurd (omega arith)
  above-owner (suc f) n k lo hi h e y =
      eq-cases (owner_of es k) 0
      (λ z. absurd (false≢true (rw (eq-eqb z) at e)))
      (λ z. or_cases (eqb (owner_of es k) n) (above es f n (owner_of es k)) (rw (ne_eqb z) at e)
      (λ q.
      let i : owner_of es k ≡ n = eqb-eq q in
      rw (ne_eqb z) (or_right (eqb (owner_of es k) (owner_of es n)) (rw i (first f n (omega (arith, owner-earlier L k lo hi)) y))))
      (λ q. rw (ne_eqb z) (or_right (eqb (owner_of es k) (owner_of es n))
      (above-owner f n (owner_of es k) (omega arith) (omega (arith, owner-earlier L k lo hi)) (omega (arith, owner-earlier L k lo hi)) q y))))
    where
      first : (f n : ℕ) → 1 ≤ f → owner_of es n ≢ 0 → above es f (owner_of es n) n ≡ true
      first zero n h y = absurd (omega arith)
      first (suc f) n h y = rw (ne_eqb y) (or_left (above es f (owner_of es n) (owner_of es n)) (eq-eqb refl))

  module _ (K : ℕ → Bool) where
    pub owns-every : (n m : ℕ) → m ≤ length es → owns_kept K es n m ≡ true → (nth es n).kind ≡ 5
    unfolding owns_kept
    owns-every n zero h e = absurd (false≢true e)
    owns-every n (suc m) h e =
        or_cases (K (suc m) && above es (suc m) n (suc m)) (owns_kept K es n m) e
        (λ q. above-every (suc m) n (suc m) (omega arith) h (and_right (K (suc m)) (above es (suc m) n (suc m)) q))
        (λ q. owns-every n m (omega arith) q)

    owns-owner : (n m : ℕ) → m ≤ length es → owns_kept K es n m ≡ true → owner_of es n ≢ 0 → owns_kept K es (owner_of es n) m ≡ true
    unfolding owns_kept
    owns-owner n zero h e y = absurd (false≢true e)
    owns-owner n (suc m) h e y =
        or_cases (K (suc m) && above es (suc m) n (suc m)) (owns_kept K es n m) e
        (λ q. or_left (owns_kept K es (owner_of es n) m)
        (and_both (and_left (K (suc m)) (above es (suc m) n (suc m)) q)
        (above-owner (suc m) n (suc m) (omega arith) h (omega arith) (and_right (K (suc m)) (above es (suc m) n (suc m)) q) y)))
        (λ q. or_right (K (suc m) && above es (suc m) (owner_of es n) (suc m)) (owns-owner n m (omega arith) q y))

    last-kept : (m : ℕ) → K (suc m) ≡ true → owner_of es (suc m) ≢ 0 → owns_kept K es (owner_of es (suc m)) (suc m) ≡ true
    unfolding owns_kept above
    last-kept m e y =
        or_left (owns_kept K es (owner_of es (suc m)) m)
        (and_both e (rw (ne_eqb y) (or_left (above es m (owner_of es (suc m)) (owner_of es (suc m))) (eq-eqb refl))))

    owned-kept : (n m : ℕ) → 1 ≤ n → n ≤ m → K n ≡ true → owner_of es n ≢ 0 → owns_kept K es (owner_of es n) m ≡ true
    unfolding owns_kept above
    owned-kept n zero lo hi e y = absurd (omega arith)
    owned-kept n (suc m) lo hi e y =
        eq-cases n (suc m)
        (λ z. subst (λ (x : ℕ). owns_kept K es (owner_of es x) (suc m) ≡ true) (sym z) (last-kept m (rw z at e) (rw z at y)))
        (λ z. or_right (K (suc m) && above es (suc m) (owner_of es n) (suc m)) (owned-kept n m lo (omega arith) e y))

    pub marks-owner : (n : ℕ) → 1 ≤ n → n ≤ length es → marked K es n ≡ true → owner_of es n ≢ 0 → marked K es (owner_of es n) ≡ true
    marks-owner n lo hi e y =
        or_right (K (owner_of es n))
        (or_cases (K n) (owns_kept K es n (length es)) e
        (λ q. owned-kept n (length es) lo hi q y)
        (λ q. owns-owner n (length es) (omega arith) q y))

    pub keeps-marked : (n : ℕ) → 1 ≤ n → n ≤ length es → marked K es n ≡ true → (nth es n).kind ≢ 5 → K n ≡ true
    keeps-marked n lo hi e z =
        or_cases (K n) (owns_kept K es n (length es)) e (λ q. q) (λ q. absurd (z (owns-every n (length es) (omega arith) q)))

-- ---- the two promises

module _ {b : Background} (law : LawfulBackground b) (c d : List Entry) (C : Legal Description c) (D : Legal Description d) where
  -- what is left of C by a set of its entries is contained in D
  abbrev P : (ℕ → Bool) → Bool
  P = suffices b c d

  pub suffices-subsumed : (K : ℕ → Bool) → (P K ≡ true) ↔ Subsumed b (place_of (thinned K 1 c) 0) (place_of d 0)
  suffices-subsumed K =
      let x = contained-all law (thinned K 1 c) d D in (λ e. x.0 (eqb-eq e), λ f. eq-eqb (x.1 f))

  pub more : (K M : ℕ → Bool) → Part K M → P K ≡ true → P M ≡ true
  more K M h e =
      (suffices-subsumed M).1 (λ r kept x i g. (suffices-subsumed K).0 e r kept x i (thinner-subsumed {b = b} K M c C h r kept x i g))

  -- C itself
  pub all-sayers : failing b c d ≡ 0 → P (sayers c) ≡ true
  all-sayers e =
      (suffices-subsumed (sayers c)).1
      (λ r kept x i h. (contained-all law c d D).0 e r kept x i
      ((paths c C r x) (λ n lo hi z. (fits-exactly (sayers c) c C r x).0 h n lo hi z (not-to-true (ne_eqb z)))))
    where
      paths : (es : List Entry) → Legal Description es → (r : Record) (x : ℕ)
          → ((n : ℕ) → 1 ≤ n → n ≤ length es → (nth es n).kind ≢ 5 → along r (links_to es n) x (meets r (atom_of (nth es n))) ≡ true)
          → fits r (place_of es 0) x ≡ true
      paths es L r x f = paths-fit r es L x f

  -- a cut that keeps K is contained exactly if K suffices
  cut-suffices : (M K : ℕ → Bool) → ((n : ℕ) → 1 ≤ n → n ≤ length c → K n ≡ true → M n ≡ true)
      → ((n : ℕ) → 1 ≤ n → n ≤ length c → M n ≡ true → owner_of c n ≢ 0 → M (owner_of c n) ≡ true)
      → ((n : ℕ) → 1 ≤ n → n ≤ length c → M n ≡ true → (nth c n).kind ≢ 5 → K n ≡ true)
      → Subsumed b (place_of (cut M 0 c) 0) (place_of d 0) ↔ (P K ≡ true)
  cut-suffices M K a o k = (
    λ f. (suffices-subsumed K).1 (λ r kept x i h. f r kept x i ((cut-exactly M K c C a o k r x).1 ((fits-exactly K c C r x).0 h))),
    λ e r kept x i h. (suffices-subsumed K).0 e r kept x i ((fits-exactly K c C r x).1 ((cut-exactly M K c C a o k r x).0 h)),
  )

  abbrev E : ℕ → Bool
  E = earners b c d

  -- C cut down to the marked entries is still contained in D
  pub earned-contained : failing b c d ≡ 0 → Subsumed b (place_of (cut (earned b c d) 0 c) 0) (place_of d 0)
  unfolding earned earners
  earned-contained e =
      (cut-suffices (marked E c) E (λ n lo hi k. or_left _ k) (marks-owner c C E) (keeps-marked c C E)).1
      (kept-passes P (length c) (sayers c) (all-sayers e))

  -- cut down so, it is a description
  pub earned-legal : Legal Description (cut (earned b c d) 0 c)
  unfolding earned earners
  earned-legal = legal-cut (marked E c) E c C (λ n lo hi k. or_left _ k) (marks-owner c C E) (keeps-marked c C E)

  -- the marks without n
  abbrev rest : ℕ → ℕ → Bool
  rest n = without n (marked E c)

  -- and without any one marked entry that is no 'every' it is not
  pub earned-needed : (n : ℕ) → 1 ≤ n → n ≤ length c → (nth c n).kind ≢ 5 → earned b c d n ≡ true
      → Subsumed b (place_of (cut (without n (earned b c d)) 0 c) 0) (place_of d 0) → ⊥
  unfolding earned earners
  earned-needed n lo hi z m f =
      let k : E n ≡ true = unfold earners in keeps-marked c C E n lo hi m z in
      both_ways
      ((cut-suffices (rest n) (without n E)
      (λ j l h e. and_both (or_left _ (and_left (E j) (not (eqb j n)) e)) (and_right (E j) (not (eqb j n)) e))
      (λ j l h e y. and_both (marks-owner c C E j l h (and_left (marked E c j) (not (eqb j n)) e) y)
      (not-to-true (ne_eqb (λ q. z (rw (← q) (owner-kind C j l h y))))))
      (λ j l h e y. and_both (keeps-marked c C E j l h (and_left (marked E c j) (not (eqb j n)) e) y) (and_right (marked E c j) (not (eqb j n)) e))).0 f)
      (kept-needed P more (length c) (sayers c) n lo hi k)
