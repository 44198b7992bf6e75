-- Owners, depths, and the table of levels that stands in for them.
-- Assumes nothing.
use Rattle.std.proofs.Common.{◌≡◌, ℕ, zero, suc, ◌+◌, ◌-◌, ◌<◌, ◌≤◌, true, false, cond, eqb, leb, ◌≢◌, List, [], ◌∷◌, ◌++◌, length, get_or, take, set, min, Option, Some, None, sym, refl, ap, ◌∙◌, ne_of_lt, add-one, arith, length-set, length-take, get_or-set_other, get_or-set_same, below_more}
use lib.ListN.{get_or-eq_default}
use Rattle.std.proofs.lemmas.List.{get_or-take}
use Rattle.base.proofs.RangeLaws.{none_left, one_left}
use Rattle.base.proofs.Tests.{bool_cases, both_ways, eq-cases, eq-eqb, ge-ltb, lt-cases, lt-ltb, ne_eqb, tests}
use Rattle.blocks.proofs.Refusing.FirstFault.{first-append, step, step-found, step-more}
use Rattle.blocks.specs.Entries.{form_ok, names_ok, nth, owning_kind}
use Rattle.blocks.specs.Faults.{Fault, Clean, Faulty, depth_row, first, owner_row, rows_from}
use Rattle.blocks.specs.Owners.{chain, depth_of, depth_ok, level_of, owner_of, owner_ok}
use Rattle.blocks.specs.code.ReadingSteps.{Levels, entry_refusal, level_by, level_under, name_rows, rule_faults, rule_rows}
use Rattle.blocks.specs.declared.Cause.TheVariants.{Name}
use Rattle.blocks.specs.declared.Cause.{Cause}
use Rattle.blocks.specs.declared.Entry.{Entry}
use Rattle.blocks.specs.declared.Schema.TheVariants.{Description, Named, Specimen}
use Rattle.blocks.specs.declared.Schema.{Schema}

-- ---- depths of entries whose owners stand earlier

chain_steps : (es : List Entry) (n : ℕ) → ((k : ℕ) → 1 ≤ k → k < n → owner_of es k < k)
    → (f g k : ℕ) → 1 ≤ k → k < n → k ≤ f → k ≤ g → chain es f k ≡ chain es g k
unfolding chain
chain_steps es n early zero g k h l hf hg = absurd (omega arith)
chain_steps es n early (suc f) zero k h l hf hg = absurd (omega arith)
chain_steps es n early (suc f) (suc g) k h l hf hg =
    let o = early k h l in
    eq-cases (owner_of es k) 0
    (λ z. rw (chain, eq-eqb z))
    (λ z.
    let r = chain_steps es n early f g (owner_of es k) (omega arith) (omega arith) (omega arith) (omega arith) in
    rw (chain, ne_eqb z, r))

pub depth-top : (es : List Entry) (n : ℕ) → owner_of es n ≡ 0 → depth_of es n ≡ 0
unfolding depth_of chain
depth-top es zero z = refl
depth-top es (suc m) z = rw (depth_of, chain, eq-eqb z)

pub depth-under : (es : List Entry) (n : ℕ) → ((k : ℕ) → 1 ≤ k → k < n → owner_of es k < k) → owner_of es n < n → owner_of es n ≢ 0
    → depth_of es n ≡ suc (depth_of es (owner_of es n))
unfolding depth_of chain
depth-under es zero early l z = absurd (omega arith)
depth-under es (suc m) early l z =
    let r = chain_steps es (suc m) early m (owner_of es (suc m)) (owner_of es (suc m)) (omega arith) l (omega arith) (omega arith) in
    rw (depth_of, chain, ne_eqb z, r)

-- ---- the table of levels

pub levels-start : (σ : Schema) (es : List Entry) (t : List ℕ) → length es < length t → Levels σ es (set t 0 1) 1
unfolding level_of
levels-start σ es t h =
    record {
      room = rw (length-set t 0 1) h;
      right = λ k l. let z : k ≡ 0 = omega arith in rw z (get_or-set_same t 0 1 0 (omega arith));
      early = λ k h l. absurd (omega arith);
    }

-- a level that a byte holds, of an entry whose owner is not too deep
pub level-told : (σ : Schema) (kind : ℕ) {l v : ℕ} → l ≤ 33 → v ≡ min (level_under σ kind l) 255 → v ≡ level_under σ kind l
unfolding level_under
level-told σ kind h e =
    e ∙ bool_cases (eqb kind (owning_kind σ)) (λ q. rw (level_under, q) (omega arith)) (λ q. rw (level_under, q))

-- the level of an owner that is an entry before n
level-of-owner : (σ : Schema) (es : List Entry) (o : ℕ) → o ≢ 0 → level_of σ es o ≡ cond (eqb (nth es o).kind (owning_kind σ)) (2 + depth_of es o) 0
unfolding level_of
level-of-owner σ es zero h = absurd (h refl)
level-of-owner σ es (suc k) h = refl

-- A level of 0: the owner is refused. Any other: it stands earlier, and the level is one more than the entry's depth.
pub level-cases : {A : Type 0} (σ : Schema) (es : List Entry) (t : List ℕ) (n : ℕ) {l : ℕ} → Levels σ es t n → 1 ≤ n → l ≡ level_by t n (owner_of es n)
    → (l ≡ 0 → owner_ok σ es n ≡ false → A) → (l ≢ 0 → owner_ok σ es n ≡ true → owner_of es n < n → l ≡ suc (depth_of es n) → A) → A
unfolding level_by owner_ok
level-cases σ es t n {l} T one e refused allowed =
    let o = owner_of es n in
    lt-cases o n
    (λ lt.
    let g : l ≡ level_of σ es o = e ∙ rw (level_by, lt-ltb lt) (T.right o lt) in
    eq-cases o 0
    (λ z.
    let d = depth-top es n z in
    let one' : level_of σ es o ≡ 1 = unfold level_of in rw z in
    allowed (omega arith) (rw (owner_ok, eq-eqb z)) lt (omega arith))
    (λ z.
    let d = depth-under es n T.early lt z in
    let h = level-of-owner σ es o z in
    bool_cases (eqb (nth es o).kind (owning_kind σ))
    (λ q. let h' = rw q at h in allowed (omega arith) (simp (owner_ok, ne_eqb z, lt-ltb lt, q)) lt (omega arith))
    (λ q. let h' = rw q at h in refused (omega arith) (simp (owner_ok, ne_eqb z, lt-ltb lt, q)))))
    (λ ge.
    let z : o ≢ 0 = λ q. omega arith in
    refused (e ∙ rw (level_by, ge-ltb ge)) (simp (owner_ok, ne_eqb z, ge-ltb ge)))

-- ---- names

-- where the schema allows the names of an entry, its number 13 is passed over; else it is the first
pub names-passed : (σ : Schema) (es : List Entry) (n : ℕ) (fs : List Fault) → names_ok σ (nth es n) ≡ true → first (name_rows σ es n ++ fs) ≡ first fs
unfolding first
names-passed Description es n fs h = refl
names-passed Specimen es n fs h = refl
names-passed (Named most) es n fs h = rw h

pub names-refused : (σ : Schema) (es : List Entry) (n : ℕ) (fs : List Fault) → names_ok σ (nth es n) ≡ false → first (name_rows σ es n ++ fs) ≡ Faulty Name n
unfolding first
names-refused Description es n fs h = both_ways refl h
names-refused Specimen es n fs h = both_ways refl h
names-refused (Named most) es n fs h = rw h

-- the level of an owner read from the levels of the entries before n
pub level-passed : (t : List ℕ) (n o : ℕ) → get_or (take n t) o 0 ≡ level_by t n o
unfolding level_by
level-passed t n o =
    lt-cases o n
    (λ h. get_or-take n t o 0 h ∙ sym (rw (lt-ltb h)))
    (λ h. get_or-eq_default (take n t) 0 {n = o} (omega (arith, length-take n t)) ∙ sym (rw (ge-ltb h)))

-- ---- entries, by the table

some_none : {A : Type 0} {k : A} → Some k ≡ None → ⊥
some_none e = let z : ◌≡◌ {A = ℕ} 0 1 = cc in omega arith

-- an entry that breaks no number: its form is allowed, and its owner has a level from 1 to 33
unrefused : (σ : Schema) (e : Entry) (l : ℕ) → entry_refusal σ e l ≡ None → (form_ok σ e ≡ true) × ((l ≢ 0) × (l ≤ 33))
unfolding entry_refusal
unrefused σ e l h =
    bool_cases (form_ok σ e)
    (λ p. bool_cases (names_ok σ e)
    (λ w. eq-cases l 0
    (λ z. let g = rw (entry_refusal, p, w, eq-eqb z) at h in absurd (some_none g))
    (λ z. lt-cases 33 l
    (λ d. let g = rw (entry_refusal, p, w, ne_eqb z, lt-ltb d) at h in absurd (some_none g))
    (λ d. (p, (z, d)))))
    (λ w. let g = rw (entry_refusal, p, w) at h in absurd (some_none g)))
    (λ p. let g = rw (entry_refusal, p) at h in absurd (some_none g))

module _ (σ : Schema) (es : List Entry) (t : List ℕ) (n : ℕ) {e : Entry} {l : ℕ} {o : Option Cause} (T : Levels σ es t n) (one : 1 ≤ n) (at : e ≡ nth es n)
    (lv : l ≡ level_by t n e.owner) (r : o ≡ entry_refusal σ e l) where
  owner-level : l ≡ level_by t n (owner_of es n)
  unfolding owner_of
  owner-level = lv ∙ ap (λ (x : Entry). level_by t n x.owner) at

  refusal-here : o ≡ entry_refusal σ (nth es n) l
  refusal-here = r ∙ ap (λ (x : Entry). entry_refusal σ x l) at

  entry-step : (left : ℕ) → first (rule_faults σ es n (suc left)) ≡ step o n (first (rule_faults σ es (suc n) left))
  unfolding rows_from first entry_refusal depth_ok
  entry-step left =
      let rest = owner_row σ es n ∷ depth_row es n ∷ [] in
      first-append (rule_rows σ es n) (rule_faults σ es (suc n) left) ∙ rw refusal-here (bool_cases (form_ok σ (nth es n))
      (λ p. bool_cases (names_ok σ (nth es n))
      (λ w. let s = names-passed σ es n rest w in
      rw (p, s, entry_refusal, w) (level-cases σ es t n T one owner-level
      (λ z o. simp (o, eq-eqb z))
      (λ z o lt d. lt-cases 33 l
      (λ h. let k : leb (depth_of es n) 32 ≡ false = omega tests in simp (o, ne_eqb z, lt-ltb h, depth_ok, k))
      (λ h. let k : leb (depth_of es n) 32 ≡ true = omega tests in simp (o, ne_eqb z, ge-ltb h, depth_ok, k)))))
      (λ w. let s = names-refused σ es n rest w in rw (p, s, entry_refusal, w)))
      (λ p. simp (entry_refusal, p)))

  pub level-small : o ≡ None → l ≤ 33
  level-small z = (unrefused σ e l (sym r ∙ z)).1.1

  pub entries-more : (total : ℕ) → n ≤ total → o ≡ None
      → first (rule_faults σ es n (total + 1 - n)) ≡ first (rule_faults σ es (n + 1) (total + 1 - (n + 1)))
  entries-more total h z =
      rw (one_left n (total + 1) (omega arith), add-one n) (entry-step (total + 1 - suc n) ∙ step-more _ _ _ z)

  pub entries-found : (total : ℕ) → n ≤ total → {k : Cause} → o ≡ Some k → first (rule_faults σ es n (total + 1 - n)) ≡ Faulty k n
  entries-found total h z =
      rw (one_left n (total + 1) (omega arith)) (entry-step (total + 1 - (n + 1)) ∙ step-found _ _ _ z)

  pub levels-more : {v : ℕ} → o ≡ None → n ≤ length es → v ≡ level_under σ e.kind l → Levels σ es (set t n v) (n + 1)
  unfolding level_under
  levels-more {v} z h u =
      let same = get_or-set_same t n v 0 (omega (arith, T.room)) in
      level-cases σ es t n T one owner-level
      (λ y o. absurd ((unrefused σ e l (sym r ∙ z)).1.0 y))
      (λ y o lt d.
      let w : v ≡ level_of σ es n = u ∙ bool_cases (eqb (nth es n).kind (owning_kind σ))
      (λ q. rw (at, level_under, q, level-of-owner σ es n (λ k. omega arith), q) (omega arith))
      (λ q. rw (at, level_under, q, level-of-owner σ es n (λ k. omega arith), q)) in
      record {
        room = rw (length-set t n v) T.room;
        right = below_more (λ k. get_or (set t n v) k 0 ≡ level_of σ es k) n
            (λ k k<. get_or-set_other t n k v 0 (ne_of_lt k<) ∙ T.right k k<) (same ∙ w);
        early = λ k k≥ k<. below_more (λ j. 1 ≤ j → owner_of es j < j) n (λ j j< j≥. T.early j j≥ j<) (λ g. lt) k k< k≥;
      })

pub entries-end : (σ : Schema) (es : List Entry) (n total : ℕ) → total < n → first (rule_faults σ es n (total + 1 - n)) ≡ Clean
unfolding rows_from first
entries-end σ es n total h = rw (none_left n (total + 1) (omega arith))
