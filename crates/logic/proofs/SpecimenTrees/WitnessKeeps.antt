-- The specimen of a comparison keeps the background, and so does its record: a record for each atom that a normal place does not
-- hold.
-- Assumes nothing.
use Prim.Native.Nat.{◌<◌, ℕ}
use lib.Dec.{eqb, ltb}
use mathlib.Core.Bool.{false, true}
use mathlib.Core.List.{List, [], ◌∷◌}
use mathlib.Core.Path.{◌∙◌, ◌≡◌, sym}
use native.Mathlib.Omega.{arith}
use Rattle.base.proofs.Missing.{and-never, opt_cases}
use Rattle.base.proofs.Tests.{bool_cases, both_ways, neither_right, or_cases, tests}
use Rattle.logic.proofs.NormalForm.IsNormal.{canonical-end, canonical-sub}
use Rattle.logic.proofs.PlaceTrees.Lookup.{is-end, is-excluded}
use Rattle.logic.proofs.SpecimenTrees.TreeRecord.{top-along, top_below, top-fits, tree-keeps, tree_record}
use Rattle.logic.proofs.SpecimenTrees.WitnessShows.{Open, open_next, target-lack, target_one, want-cap, witness-fits, witness-refutes}
use Rattle.logic.proofs.SpecimenTrees.WitnessTree.{given-witness, kept-witness, total-witness}
use Rattle.logic.specs.Background.{Background, Keeps, LawfulBackground}
use Rattle.logic.specs.Canonical.{Canonical, Clean, canonical}
use Rattle.logic.specs.Holds.{holds_at}
use Rattle.logic.specs.Normal.{excluded, find, found, is_end, sub, under}
use Rattle.logic.specs.Place.{Atom, Place, has, lacks, least, most}
use Rattle.logic.specs.Record.{Record, along, fits, meets}
use Rattle.logic.specs.SpecimenTree.{KeepsTop, KeptBelow, SpecimenTree, given}
use Rattle.logic.specs.Tree.{end}
use Rattle.logic.specs.Witness.{Target, build, groups_by, member, names, next, off, on, target_properties, with_properties, witness}

module _ {b : Background} (law : LawfulBackground b) where
  -- ---- one item

  -- an item has no property that a listed one excludes
  given-free : (t : Place) (g : Target) (p : ℕ) → Clean b t → Open b t g → given p (witness t g) ≡ true → excluded b p t ≡ false
  given-free t g p c o e =
      or_cases (found (find has p t)) (member p (target_properties g)) (sym (given-witness t g p) ∙ e)
      (λ z. opt_cases (find has p t)
      (λ q. both_ways z (rw q))
      (λ m q. neither_right (found (find lacks p t)) (excluded b p t) (c has p m q).0))
      (λ z. neither_right (found (find lacks p t)) (excluded b p t) (target-lack b t g p o z))

  -- a listed property that excludes q
  listed-excludes : (t : Place) (p q : ℕ) → found (find has p t) ≡ true → b.excludes p q ≡ true → excluded b q t ≡ true
  listed-excludes t p q e x =
      opt_cases (find has p t)
      (λ z. both_ways e (rw z))
      (λ m z. is-excluded b q t (record { name = p; number = m; listed = z; against = x }))

  -- no two properties of an item exclude each other
  given-apart : (t : Place) (g : Target) (p q : ℕ) → Clean b t → Open b t g → b.excludes p q ≡ true → given p (witness t g) ≡ true
      → given q (witness t g) ≡ true → ⊥
  given-apart t g p q c o x e f =
      or_cases (found (find has p t)) (member p (target_properties g)) (sym (given-witness t g p) ∙ e)
      (λ z. both_ways (listed-excludes t p q z x) (given-free t g q c o f))
      (λ z. or_cases (found (find has q t)) (member q (target_properties g)) (sym (given-witness t g q) ∙ f)
      (λ y. both_ways (listed-excludes t q p y (law.both_ways q p ∙ x)) (given-free t g p c o e))
      (λ y. let i : p ≡ q = target_one g p q z y in both_ways (rw i at x) (law.not_itself q)))

  -- the top item keeps the background
  keeps-top : (t : Place) → Clean b t → (g : Target) → Open b t g → KeepsTop b (witness t g)
  keeps-top t c g o =
      record {
        caps = λ l m e. rw (total-witness t g l)
            (opt_cases (find least l t)
            (λ q. rw q (omega (arith, want-cap b t g l m o e)))
            (λ d q.
            let z : ltb m d ≡ false = rw e at (neither_right (under d (find most l t)) (under d (b.cap l)) (c least l d q).0) in
            rw q (omega (tests, want-cap b t g l m o e))));
        exclusions = λ p q x. and-never (given-apart t g p q c o x);
      }

  -- ---- all items

  -- what a normal place lists
  clean : {t : Place} → Canonical b t → Clean b t
  clean (canonical a c d s) = c

  -- below a place that asks nothing: the target's path alone
  kept_off : KeptBelow b (witness end off)
  unfolding witness build names with_properties groups_by
  kept_off = tt

  kept-path : (w : List ℕ) (a : Atom) → Open b end (on w a) → KeptBelow b (witness end (on w a))
  unfolding sub
  kept-path [] a o = kept-witness end (on [] a) b (λ l. (keeps-top end (clean (canonical-end law)) off tt, kept_off))
  kept-path (l' ∷ w) a o =
      kept-witness end (on (l' ∷ w) a) b
      (λ l. let n = open_next b end (on (l' ∷ w) a) l o in (
        keeps-top end (clean (canonical-end law)) (next (on (l' ∷ w) a) l) n,
        bool_cases (eqb l l')
            (λ q. let n' : Open b end (on w a) = rw q at n in rw q (kept-path w a n'))
            (λ q. rw q kept_off),
      ))

  kept-end : (g : Target) → Open b end g → KeptBelow b (witness end g)
  kept-end off o = kept_off
  kept-end (on w a) o = kept-path w a o

  -- all items below keep it
  kept-all : (t : Place) → Canonical b t → (g : Target) → Open b t g → KeptBelow b (witness t g)
  kept-all t (canonical a c d s) g o =
      kept-witness t g b
      (λ l. let n = open_next b t g l o in (
        keeps-top (sub l t) (clean (canonical-sub law l t (canonical a c d s))) (next g l) n,
        bool_cases (is_end (sub l t))
            (λ e. let i : sub l t ≡ end = is-end (sub l t) e in rw i (kept-end (next g l) (rw i at n)))
            (λ e. kept-all (sub l t) (s l e) (next g l) n),
      ))

  -- the specimen of a comparison keeps the background
  pub witness-keeps : (t : Place) → Canonical b t → (g : Target) → Open b t g → KeepsTop b (witness t g) × KeptBelow b (witness t g)
  witness-keeps t h g o = (keeps-top t (clean h) g o, kept-all t h g o)

-- ---- the record

-- a record that keeps the background, with an item that fits t and from which the links w lead to one that does not meet the atom
pub record Counterexample (b : Background) (t : Place) (w : List ℕ) (a : Atom) : Type 0 where
  pub shown : Record
  pub kept : Keeps b shown
  pub item : ℕ
  pub inside : item < shown.size
  pub fitting : fits shown t item ≡ true
  pub failing : along shown w item (meets shown a) ≡ false

-- what a normal place does not hold has a counterexample
pub counterexample : {b : Background} → LawfulBackground b → {t : Place} → Canonical b t → (w : List ℕ) (a : Atom)
    → holds_at b t w a ≡ false → Counterexample b t w a
counterexample {b} law {t} h w a e =
    let s : SpecimenTree = witness t (on w a) in
    let k = witness-keeps law t h (on w a) e in
    record {
      shown = tree_record s;
      kept = tree-keeps b s k.0 k.1;
      item = 0;
      inside = top_below s;
      fitting = top-fits s t ∙ witness-fits b t h (on w a) e;
      failing = top-along s w a ∙ witness-refutes b t w a e;
    }
