-- Of two equal entries the first is left.
-- Assumes nothing.
use Prim.Native.Nat.{◌<◌, ◌≤◌, suc, zero, ℕ}
use lib.Dec.{leb}
use lib.ListN.{length}
use mathlib.Core.Bool.{Bool, false, true}
use mathlib.Core.List.{List}
use mathlib.Core.Logic.{◌≢◌}
use mathlib.Core.Path.{◌∙◌, ◌≡◌, ap, sym}
use native.Mathlib.Omega.{arith}
use Rattle.base.proofs.Missing.{not-true}
use Rattle.base.proofs.Tests.{and_both, eq-cases, eq-eqb, ne_eqb, not-to-false, not-to-true, or-none, tests}
use Rattle.blocks.proofs.Refusing.Legal.{owner-earlier}
use Rattle.blocks.specs.Entries.{nth}
use Rattle.blocks.specs.Owners.{owner_of}
use Rattle.blocks.specs.Promise.{Legal}
use Rattle.blocks.specs.declared.Entry.{Entry}
use Rattle.blocks.specs.declared.Schema.TheVariants.{Description}
use Rattle.earning.proofs.AttemptLaws.{sayers-left}
use Rattle.logic.specs.Background.{Background, LawfulBackground}
use Rattle.meaning.specs.Description.{links_to, links_up}
use Rattle.meaning.specs.Failing.{failing}
use Rattle.narrow.proofs.Keeping.Earning.{owns-every, suffices-subsumed}
use Rattle.narrow.proofs.Keeping.Thinned.{fits-exactly}
use Rattle.narrow.proofs.Keeping.Turns.{turn-kept, turn-passes}
use Rattle.narrow.specs.Earned.{earned, earners, sayers, suffices}
use Rattle.narrow.specs.Keeping.{keep_from, without}
use Rattle.narrow.specs.Missing.{turning}

module _ (c : List Entry) (C : Legal Description c) where
  -- any number of steps that is enough gives the links to an entry
  any-steps : (f g k : ℕ) → 1 ≤ k → k ≤ length c → k ≤ f → k ≤ g → links_up c f k ≡ links_up c g k
  unfolding links_up
  any-steps zero g k lo hi h l = absurd (omega arith)
  any-steps (suc f) zero k lo hi h l = absurd (omega arith)
  any-steps (suc f) (suc g) k lo hi h l =
      eq-cases (owner_of c k) 0
      (λ z. rw (eq-eqb z))
      (λ z.
      let o = owner-earlier C k lo hi in
      rw (ne_eqb z, any-steps f g (owner_of c k) (omega arith) (omega (arith, o)) (omega (arith, o)) (omega (arith, o))))

  -- what one owner owns stands at one path
  same-links : (i j : ℕ) → 1 ≤ i → i ≤ length c → 1 ≤ j → j ≤ length c → owner_of c i ≡ owner_of c j → links_to c i ≡ links_to c j
  unfolding links_to links_up
  same-links zero j li hi lj hj e = absurd (omega arith)
  same-links (suc i) zero li hi lj hj e = absurd (omega arith)
  same-links (suc i) (suc j) li hi lj hj e =
      let p = owner-earlier C (suc i) li hi in
      let q = owner-earlier C (suc j) lj hj in
      rw e
      (eq-cases (owner_of c (suc j)) 0
      (λ z. rw (eq-eqb z))
      (λ z. rw (ne_eqb z, any-steps i j (owner_of c (suc j)) (omega arith) (omega (arith, q)) (omega (arith, p, e)) (omega (arith, q)))))

module _ {b : Background} (law : LawfulBackground b) (c d : List Entry) (C : Legal Description c) (D : Legal Description d) (yes : failing b c d ≡ 0)
    (i j : ℕ) (lo : 1 ≤ i) (before : i < j) (hi : j ≤ length c) (same : nth c i ≡ nth c j) (says : (nth c j).kind ≢ 5) where
  abbrev P : (ℕ → Bool) → Bool
  P = suffices b c d

  -- what stands when entry j has its turn
  abbrev T : ℕ → Bool
  T = turning j (keep_from P (length c) (sayers c)) (sayers c)

  all-pass : P (sayers c) ≡ true
  all-pass = rw (sayers-left c) (eq-eqb yes)

  passes : P T ≡ true
  passes = turn-passes P (length c) (sayers c) j hi all-pass

  earlier-says : (nth c i).kind ≢ 5
  earlier-says z = says (sym (ap (λ (e : Entry). e.kind) same) ∙ z)

  earlier-stands : T i ≡ true
  earlier-stands = let l : leb i j ≡ true = omega tests in rw l (not-to-true (ne_eqb earlier-says))

  same-owner : owner_of c i ≡ owner_of c j
  unfolding owner_of
  same-owner = ap (λ (e : Entry). e.owner) same

  goes : P (without j T) ≡ true
  goes =
      (suffices-subsumed law c d C D (without j T)).1
      (λ r kept x within h.
      (suffices-subsumed law c d C D T).0 passes r kept x within
      ((fits-exactly T c C r x).1
      (λ n l u z k. eq-cases n j
      (λ q.
      let m = (fits-exactly (without j T) c C r x).0 h i lo (omega arith) earlier-says (and_both earlier-stands (not-to-true (ne_eqb (λ y. omega arith)))) in
      rw q (rw (same-links c C i j lo (omega arith) (omega arith) hi same-owner, same) at m))
      (λ q. (fits-exactly (without j T) c C r x).0 h n l u z (and_both k (not-to-true (ne_eqb q)))))))

  later-left : earners b c d j ≡ false
  unfolding earners
  later-left = turn-kept P (length c) (sayers c) j (omega arith) hi (not-to-true (ne_eqb says)) ∙ not-to-false goes

  -- the later of two equal entries is not marked
  pub equal-later : earned b c d j ≡ false
  unfolding earned
  equal-later = or-none later-left (not-true (λ m. says (owns-every c C (earners b c d) j (length c) (omega arith) m)))
