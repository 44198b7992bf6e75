-- What one pass over the entries of a description works out, entry by entry: what they come to so far, and what those that are left add to it.
-- Assumes nothing.
use Prim.Native.Nat.{◌+◌, ◌-◌, ◌<◌, ◌≤◌, max, suc, zero, ℕ}
use lib.Dec.{eqb, leb, ltb}
use lib.ListN.{drop, drop_of_length-le, get_or, length, set}
use lib.Seq.{drop-cons, get_or-set_other, get_or-set_same}
use mathlib.Core.Bool.{◌&&◌, cond, false, true}
use mathlib.Core.List.{List, ◌∷◌}
use mathlib.Core.Logic.{◌≢◌}
use mathlib.Core.Path.{◌∙◌, ◌≡◌, ap, refl, sym}
use native.Mathlib.Omega.{arith}
use Rattle.base.proofs.Tests.{bool_cases, eq-cases, eq-eqb, lt-cases, lt-ltb, ne_eqb, tests}
use Rattle.blocks.proofs.Refusing.LevelLaws.{entries-end, entries-found, entries-more, levels-more, levels-start}
use Rattle.blocks.specs.Entries.{form_ok, is_named, name_given, nth, zero_entry}
use Rattle.blocks.specs.Faults.{Clean, Faulty, first}
use Rattle.blocks.specs.code.ReadingSteps.{Levels, entry_refusal, level_by, level_under, rule_faults}
use Rattle.blocks.specs.declared.Cause.{Cause}
use Rattle.blocks.specs.declared.Cause.TheVariants.{Depth, Form, Name, Owner}
use Rattle.blocks.specs.declared.Entry.{Entry}
use Rattle.std.specs.Prelude.{None, Option, Some}
use Rattle.blocks.specs.declared.Schema.TheVariants.{Description, Named}
use Rattle.names.proofs.Legality.NamedReadings.{form-named}
use Rattle.names.proofs.Legality.NoNames.{form-same}
use Rattle.names.specs.Measures.{levels_by, levels_from, size_by, under}
use Rattle.names.specs.NamedForm.{named_form_ok}
use Rattle.names.specs.Unfold.{noted}
use Rattle.unfolding.specs.code.Checking.{Gone}

-- some levels at a depth
pub under_some : (d l : ℕ) → l ≢ 0 → d + l ≡ under d l
under_some d zero h = absurd (h refl)
under_some d (suc l) h = refl

-- ---- the loop

module _ (S L : ℕ → ℕ) (es : List Entry) where
  -- before the first entry: the top owns at depth 0
  pub gone-start : (t : List ℕ) → 0 < length t → Gone S L es (set t 0 1) 0 0 0
  gone-start t h = record {
    depth = λ j. 0;
    owns = λ j l z. let e : j ≡ 0 = omega arith in rw e (get_or-set_same t 0 1 0 h);
    few = omega arith;
    bound = omega arith;
    size = omega arith;
    deep = omega arith;
  }

  -- one entry more, number n: v is its level in the table, z how many entries it stands for, u how deep they stand
  pub gone-more : {t : List ℕ} {total most i n : ℕ} → Gone S L es t total most i → n ≡ suc i → n ≤ length es → n < length t
      → {e : Entry} → e ≡ nth es n → (k : ℕ) {l v z u m : ℕ} → l ≡ level_by t n e.owner → l ≢ 0 → v ≡ level_under (Named k) e.kind l
      → z ≡ cond (is_named e) (S e.name) 1 → z ≤ 65535 → u ≡ under (l - 1) (cond (is_named e) (L e.name) 1) → m ≡ max most u
      → Gone S L es (set t n v) (total + z) m n
  unfolding size_by levels_from nth level_under level_by
  gone-more {t} {total} {most} {i} {n} G q h b {e} at k {l} {v} {z} {u} {m} le ln ve ze zb ue me =
      let here : e ≡ nth es (suc i) = at ∙ ap (nth es) q in
      let left : drop i es ≡ e ∷ drop (suc i) es = drop-cons es i zero_entry (omega arith) ∙ rw here in
      let own : (e.owner ≤ i) × (l ≡ get_or t e.owner 0) = bool_cases (ltb e.owner n)
      (λ y. (omega tests, le ∙ rw (level_by, y)))
      (λ y. absurd (ln (le ∙ rw (level_by, y)))) in
      let d : l ≡ suc (G.depth e.owner) = own.1 ∙ G.owns e.owner own.0 (λ y. ln (own.1 ∙ y)) in
      let less : l - 1 ≡ G.depth e.owner = omega arith in
      let s : size_by S (drop i es) ≡ z + size_by S (drop (suc i) es) = rw (left, ze) in
      let w : levels_from L G.depth (suc i) (drop i es)
      ≡ max u (levels_from L (noted G.depth (suc i) (suc (G.depth e.owner))) (suc (suc i)) (drop (suc i) es)) = rw (left, ue, less) in
      record {
        depth = noted G.depth (suc i) (suc (G.depth e.owner));
        owns = λ j jb. eq-cases j n
            (λ p y.
            let same : get_or (set t n v) j 0 ≡ v = rw p (get_or-set_same t n v 0 b) in
            let is : eqb j (suc i) ≡ true = omega tests in
            let more : v ≡ suc l = bool_cases (eqb e.kind 5)
            (λ x. let g : v ≡ l + 1 = ve ∙ rw (level_under, x) in omega arith)
            (λ x. absurd (y (same ∙ ve ∙ rw (level_under, x)))) in
            rw is (omega arith))
            (λ p y.
            let same : get_or (set t n v) j 0 ≡ get_or t j 0 = get_or-set_other t n j v 0 p in
            let is : eqb j (suc i) ≡ false = omega tests in
            rw is (same ∙ G.owns j (omega arith) (λ x. y (same ∙ x))));
        few = h;
        bound = omega (arith, G.bound);
        size = rw q (omega (arith, G.size));
        deep = rw q (omega (arith, G.deep));
      }

  -- after the last
  pub gone-all : {t : List ℕ} {total most i : ℕ} → Gone S L es t total most i → length es ≤ i → (total ≡ size_by S es) × (most ≡ levels_by L es)
  unfolding size_by levels_from
  gone-all {t} {total} {most} {i} G h =
      let none = drop_of_length-le es h in
      let s : size_by S (drop i es) ≡ 0 = rw none in
      let l : levels_from L G.depth (suc i) (drop i es) ≡ 0 = rw none in
      (omega (arith, G.size), omega (arith, G.deep))

-- ---- the rules of one entry

some_none : {A : Type 0} {k : A} → Some k ≡ None → ⊥
some_none e = let z : ◌≡◌ {A = ℕ} 0 1 = cc in omega arith

module _ (most : ℕ) (e : Entry) (l : ℕ) where
  -- those of a name
  pub name_rules : is_named e ≡ true
      → entry_refusal (Named most) e l
      ≡ cond (eqb e.reserved 0 && eqb e.number 0) (cond (ltb 0 e.name && leb e.name most) (cond (eqb l 0) (Some Owner) (cond (ltb 33 l) (Some Depth) None)) (Some Name)) (Some Form)
  unfolding entry_refusal named_form_ok name_given
  name_rules q = rw (entry_refusal, form-named most e, named_form_ok, name_given, q)

  -- those of any other entry are those of a description without names
  pub other-rules : is_named e ≡ false → entry_refusal (Named most) e l ≡ entry_refusal Description e l
  unfolding entry_refusal name_given
  other-rules q = rw (entry_refusal, form-named most e, form-same e q, name_given, q)

  -- a name owns nothing
  pub name-level : is_named e ≡ true → 0 ≡ level_under (Named most) e.kind l
  unfolding level_under
  name-level q = let z : eqb e.kind 5 ≡ false = omega tests in rw (level_under, z)

  -- what an entry that breaks none keeps
  pub unrefused : {o : Option Cause} → o ≡ entry_refusal (Named most) e l → o ≡ None → (name_given most e ≡ true) × ((l ≢ 0) × (l ≤ 33))
  unfolding entry_refusal
  unrefused r n =
      let h : entry_refusal (Named most) e l ≡ None = sym r ∙ n in
      bool_cases (form_ok (Named most) e)
      (λ p. bool_cases (name_given most e)
      (λ w. eq-cases l 0
      (λ z. let g = rw (entry_refusal, p, w, eq-eqb z) at h in absurd (some_none g))
      (λ z. lt-cases 33 l
      (λ d. let g = rw (entry_refusal, p, w, ne_eqb z, lt-ltb d) at h in absurd (some_none g))
      (λ d. (w, (z, d)))))
      (λ w. let g = rw (entry_refusal, p, w) at h in absurd (some_none g)))
      (λ p. let g = rw (entry_refusal, p) at h in absurd (some_none g))

-- the level of an entry that may own others
pub other-level : (most kind l : ℕ) {v : ℕ} → v ≡ level_under Description kind l → v ≡ level_under (Named most) kind l
unfolding level_under
other-level most kind l e = e

-- ---- checked and measured together

-- k entries are passed: the table has their levels, what the whole search finds is what the search of those left finds, and what they come to
pub record Past (most : ℕ) (S L : ℕ → ℕ) (es : List Entry) (total : ℕ) (level : List ℕ) (had deep k : ℕ) : Type 0 where
  pub levels : Levels (Named most) es level (k + 1)
  pub rest : first (rule_faults (Named most) es 1 total) ≡ first (rule_faults (Named most) es (k + 1) (total + 1 - (k + 1)))
  pub gone : Gone S L es level had deep k

pub past-start : (most : ℕ) (S L : ℕ → ℕ) (es : List Entry) (total : ℕ) (level : List ℕ) → length es < length level
    → Past most S L es total (set level 0 1) 0 0 0
past-start most S L es total level h =
    let e : total + 1 - 1 ≡ total = omega arith in
    record { levels = levels-start _ _ level h; rest = rw e; gone = gone-start _ _ _ level (omega arith) }

module _ {most : ℕ} {S L : ℕ → ℕ} {es : List Entry} {total : ℕ} {level : List ℕ} {had deep k : ℕ} (P : Past most S L es total level had deep k) where
  -- the next: l is the level of its owner, o why it is refused
  module _ (b : k < total) (all : total ≡ length es) {e : Entry} (at : e ≡ nth es (k + 1)) {l : ℕ} (lv : l ≡ level_by level (k + 1) e.owner) {o : Option Cause}
      (r : o ≡ entry_refusal (Named most) e l) where
    pub past-refused : {x : Cause} → o ≡ Some x → first (rule_faults (Named most) es 1 total) ≡ Faulty x (k + 1)
    past-refused z = P.rest ∙ entries-found _ _ _ _ P.levels (omega arith) at lv r total (omega arith) z

    -- it is right: v is its level in the table, z how many entries it stands for, u how deep they stand
    pub past-more : o ≡ None → {v z u m : ℕ} → v ≡ level_under (Named most) e.kind l
        → z ≡ cond (is_named e) (S e.name) 1 → z ≤ 65535
        → u ≡ under (l - 1) (cond (is_named e) (L e.name) 1) → m ≡ max deep u → Past most S L es total (set level (k + 1) v) (had + z) m (k + 1)
    past-more n ve ze zb ue me =
        let there : k + 1 ≤ length es = omega arith in
        record {
          levels = levels-more _ _ _ _ P.levels (omega arith) at lv r n there ve;
          rest = P.rest ∙ entries-more _ _ _ _ P.levels (omega arith) at lv r total (omega arith) n;
          gone =
              gone-more _ _ _ P.gone (omega arith) there (omega (arith, P.levels.room)) at most lv (unrefused _ _ _ r n).1.0 ve ze zb ue me;
        }

  -- all are passed
  pub past-all : total ≡ length es → k ≡ total → (first (rule_faults (Named most) es 1 total) ≡ Clean) × (had ≡ size_by S es) × (deep ≡ levels_by L es)
  past-all all e =
      let g = gone-all _ _ _ P.gone (omega arith) in
      (P.rest ∙ entries-end _ _ _ _ (omega arith), g.0, g.1)
