-- A description without the names in it that stand for nothing stands for the same; and it needs no more room than what is unfolded.
-- Assumes nothing.
use Prim.Native.Nat.{◌-◌, ◌≤◌, suc, ℕ}
use lib.Dec.{eqb}
use lib.ListN.{length}
use mathlib.Core.Bool.{false, true}
use mathlib.Core.List.{List, [], ◌∷◌}
use mathlib.Core.Path.{◌∙◌, ◌≡◌, ap, refl, subst, sym}
use native.Mathlib.Omega.{arith}
use Rattle.base.proofs.Tests.{bool_cases, both_ways, eqb-eq, tests}
use Rattle.blocks.specs.Entries.{is_named, name_given, nth}
use Rattle.blocks.specs.declared.Entry.{Entry}
use Rattle.names.proofs.Dictionary.ByAllValues.{described-given, given-name}
use Rattle.names.proofs.Dictionary.ContentsUnfold.{contents-unfold, described-forms, described-owners}
use Rattle.names.proofs.Entries.EachEntry.{EachEntry, each-of-numbers, numbers-of-each, unfold-each}
use Rattle.names.proofs.Entries.UnfoldPlain.{unfold-plain}
use Rattle.names.proofs.InPasses.Replaced.{again-forms, again-owners, unfold-again, unfold-forms, unfold-pass}
use Rattle.names.proofs.Legality.UnfoldOwners.{unfold-owners-ok}
use Rattle.names.proofs.Measured.UnfoldSize.{contents-size, named-size}
use Rattle.names.specs.Measures.{size_by, size_named, size_nth}
use Rattle.names.specs.Promise.{Each, FormsOk, LegalNamed, OwnersOk}
use Rattle.names.specs.Unfold.{contents, described, in_turn, noted, unfold_from, unfolded, unfolded_by}
use Rattle.names.specs.code.Passes.{Left, Stage, StandsFor, emptied, inside, kept_by, name_again}

none-there : (es : List Entry) → length es ≡ 0 → es ≡ []
none-there [] e = refl
none-there (x ∷ es) e = absurd (omega arith)

-- what stands for no entries has empty contents
pub empty-contents : (K : List (List Entry)) (n : ℕ) → eqb (size_nth K n) 0 ≡ true → contents K n ≡ []
empty-contents K n h = none-there (contents K n) (contents-size K n ∙ eqb-eq h)

-- 0 names nothing
none_named : (k : ℕ) (made : ℕ → ℕ) (K : List (List Entry)) → made 0 ≡ 0 → in_turn size_by made (suc k) K 0 ≡ 0
unfolding in_turn
none_named k made [] h = h
none_named k made (d ∷ K) h = let z : eqb 0 (suc k) ≡ false = omega tests in none_named (suc k) (noted made (suc k) (size_by made d)) K (rw z h)

pub zero-empty : (K : List (List Entry)) → size_nth K 0 ≡ 0
unfolding size_nth
zero-empty K = none_named 0 (λ n. 0) K refl

module _ (K : List (List Entry)) where
  -- ---- names that stand for nothing

  -- a name becomes nothing, or itself
  kept-cases : {X : Type 0} (x : ℕ) → (eqb (size_nth K x) 0 ≡ true → emptied K x ≡ [] → X) → (1 ≤ size_nth K x → emptied K x ≡ name_again x → X) → X
  unfolding kept_by
  kept-cases x none other = bool_cases (eqb (size_nth K x) 0) (λ q. none q (rw q)) (λ q. other (omega tests) (rw q))

  emptied-stands : StandsFor K (emptied K)
  unfolding unfolded_by unfolded unfold_from
  emptied-stands =
      record {
        form = λ x. kept-cases x (λ q e. rw e (λ i lo hi. absurd (omega arith))) (λ o e. rw e (again-forms x));
        owner = λ x. kept-cases x (λ q e. rw e (λ i lo hi. absurd (omega arith))) (λ o e. rw e (again-owners x));
        same = λ x. kept-cases x (λ q e. rw e (sym (empty-contents K x q))) (λ o e. rw e (unfold-again (contents K) x));
      }

  -- ---- stages

  -- without names that stand for nothing, entries stand for the same
  emptied-stage : (r : ℕ) (es : List Entry) → FormsOk es → OwnersOk es
      → ((n : ℕ) → 1 ≤ n → n ≤ length es → is_named (nth es n) ≡ true → (nth es n).name ≤ r) → Stage K (unfolded_by K es) r (unfolded (emptied K) es)
  emptied-stage r es f w h =
      record {
        form = unfold-forms (emptied K) emptied-stands.form es f;
        owner = unfold-owners-ok (emptied K) emptied-stands.owner es w;
        left = numbers-of-each (Left K r) (unfolded (emptied K) es)
            (unfold-each (Left K r) (λ o e l. l) (emptied K) es
            (λ i lo hi. (λ q. kept-cases (nth es i).name (λ z e. rw e tt) (λ o e. rw e (λ y. (o, h i lo hi q), tt)), λ q y. both_ways y q)));
        same = unfold-pass K (emptied K) emptied-stands es w;
      }

  module _ (each : Each LegalNamed K) where
    -- the entries that a pass puts in for a name stand for its description
    pub inside-stage : (n : ℕ) → Stage K (contents K n) (n - 1) (inside K n)
    inside-stage n =
        rw (contents-unfold K each n)
        (emptied-stage (n - 1) (described K n) (described-forms K each n) (described-owners K each n)
        (λ i lo hi q. given-name (n - 1) (nth (described K n) i)
        (numbers-of-each (λ e. name_given (n - 1) e ≡ true) (described K n) (described-given K each n) i lo hi) q))

  -- names that are left may be bounded by any number that bounds them
  pub stage-lower : (whole : List Entry) (r t : ℕ) (es : List Entry) → Stage K whole r es
      → ((n : ℕ) → 1 ≤ n → n ≤ length es → is_named (nth es n) ≡ true → (nth es n).name ≤ t) → Stage K whole t es
  stage-lower whole r t es G h =
      record { form = G.form; owner = G.owner; left = λ n lo hi q. ((G.left n lo hi q).0, h n lo hi q); same = G.same }

  -- after the last: all is unfolded
  pub stage-last : (whole es : List Entry) → Stage K whole 0 es → es ≡ whole
  unfolding unfolded_by
  stage-last whole es G =
      sym (unfold-plain (contents K) es (λ n lo hi. bool_cases (is_named (nth es n)) (λ q. let l = G.left n lo hi q in let z : (nth es n).name ≡ 0 = omega (arith, l.1) in absurd (omega (arith, subst (λ (x : ℕ). 1 ≤ size_nth K x) z l.0, zero-empty K))) (λ q. q))) ∙ G.same

  -- ---- room

  -- a list whose names stand for something is no longer than what it stands for
  room_by : (S : ℕ → ℕ) (es : List Entry) → EachEntry (λ e. is_named e ≡ true → 1 ≤ S e.name) es → length es ≤ size_by S es
  unfolding size_by
  room_by S [] h = omega arith
  room_by S (e ∷ es) h =
      let ih = room_by S es h.1 in
      bool_cases (is_named e) (λ q. let one = h.0 q in rw q (omega arith)) (λ q. rw q (omega arith))

  -- no stage is longer than what is unfolded
  pub stage-room : (whole : List Entry) (r : ℕ) (es : List Entry) → Stage K whole r es → length es ≤ length whole
  unfolding size_named
  stage-room whole r es G =
      let enough : length es ≤ size_by (size_nth K) es
      = room_by (size_nth K) es (each-of-numbers (λ e. is_named e ≡ true → 1 ≤ size_nth K e.name) es (λ n lo hi q. (G.left n lo hi q).0)) in
      let size : length (unfolded_by K es) ≡ size_by (size_nth K) es = named-size K es in
      omega (arith, ap length G.same)
