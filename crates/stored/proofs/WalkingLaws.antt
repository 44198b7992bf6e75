-- Which depths the next stored entry may have, by the entries before it; and the search for the lowest that is refused.
-- Assumes nothing.
use Rattle.std.proofs.Common.{◌≡◌, ℕ, suc, ◌-◌, ◌<◌, ◌≤◌, true, false, cond, eqb, ◌≢◌, List, length, get_or, set, get_or-set_other, get_or-set_same, length-set, Option, Some, None, refl, sym, ◌∙◌, arith}
use Rattle.base.proofs.Lists.{zeros-read}
use Rattle.base.proofs.Tests.{bool_cases, eq-cases, eq-eqb, ge-ltb, gt-leb, le-leb, leb-le, lt-cases, lt-ltb, ne_eqb}
use Rattle.blocks.proofs.Refusing.FirstFault.{step, step-found, step-more}
use Rattle.blocks.specs.Entries.{form_ok}
use Rattle.blocks.specs.Faults.{Clean, Faulty, first, rows_from}
use Rattle.blocks.specs.declared.Cause.{Cause}
use Rattle.blocks.specs.declared.Cause.TheVariants.{Depth, Form, Walking}
use Rattle.blocks.specs.declared.Schema.TheVariants.{Description}
use Rattle.std.specs.Prelude.{nat_le, replicate}
use Rattle.stored.specs.Stored.{owned_entry, stored_nth}
use Rattle.stored.specs.Walking.{may_own, nearest, stored_owner, stored_rows, walking_ok}
use Rattle.stored.specs.code.Steps.{stored_refusal}
use Rattle.stored.specs.declared.StoredEntry.{StoredEntry}

-- what is none is not some
pub none-some : {o : Option Cause} (k : Cause) → o ≡ None → o ≡ Some k → ⊥
none-some k z e = let w : ◌≡◌ {A = Option Cause} None (Some k) = sym z ∙ e in let y : ◌≡◌ {A = ℕ} 0 1 = cc in absurd (omega arith)

-- past the last entry nothing is found
pub entry-end : (xs : List StoredEntry) (n left : ℕ) → left ≡ 0 → first (rows_from (stored_rows xs) n left) ≡ Clean
unfolding rows_from first
entry-end xs n left z = rw z refl

module _ (xs : List StoredEntry) where
  -- After n entries the next may have depth `most` at most: each depth from 1 up to that has an owner, and no deeper
  -- one.
  pub record Open (most n : ℕ) : Type 0 where
    pub held : (d : ℕ) → 1 ≤ d → d ≤ most → may_own (stored_nth xs (nearest xs d n)) d ≡ true
    pub none : (d : ℕ) → most < d → may_own (stored_nth xs (nearest xs d n)) d ≡ false

  -- before the first entry that is the top's
  pub open-start : Open 0 0
  unfolding nearest stored_nth
  open-start = record { held = λ d lo hi. absurd (omega arith); none = λ d h. refl }

  -- the depth that may come next after an entry: its own, or one more where it is an 'every'
  abbrev pub next_most : StoredEntry → ℕ
  next_most x = cond (eqb x.kind 5) (suc x.depth) x.depth

  -- one entry more is passed over, if it is no less deep, and is found otherwise
  pub nearest-before : (d n : ℕ) → d ≤ (stored_nth xs (suc n)).depth → nearest xs d (suc n) ≡ nearest xs d n
  unfolding nearest
  nearest-before d n h = rw (ge-ltb h)

  pub nearest-here : (d n : ℕ) → (stored_nth xs (suc n)).depth < d → nearest xs d (suc n) ≡ suc n
  unfolding nearest
  nearest-here d n h = rw (lt-ltb h)

  -- the owner of entry n
  pub owner-nearest : (n : ℕ) → stored_owner xs (suc n) ≡ nearest xs (stored_nth xs (suc n)).depth n
  unfolding stored_owner
  owner-nearest n = let e : suc n - 1 ≡ n = omega arith in rw (stored_owner, e)

  -- number 15 by its words is the test at one look
  pub at-one-look : (most n : ℕ) → Open most n → walking_ok xs (suc n) ≡ nat_le (stored_nth xs (suc n)).depth most
  unfolding walking_ok
  at-one-look most n O =
      let d = (stored_nth xs (suc n)).depth in
      eq-cases d 0
      (λ z. let l : nat_le d most ≡ true = le-leb (omega arith) in rw (walking_ok, eq-eqb z, l))
      (λ z. lt-cases most d
      (λ h. rw (walking_ok, ne_eqb z, gt-leb h, owner-nearest n) (O.none d h))
      (λ h. rw (walking_ok, ne_eqb z, le-leb h, owner-nearest n) (O.held d (omega arith) h)))

  -- an entry more that may stand there
  pub open-more : (most n : ℕ) → Open most n → (stored_nth xs (suc n)).depth ≤ most → Open (next_most (stored_nth xs (suc n))) (suc n)
  open-more most n O le =
      let x : StoredEntry = stored_nth xs (suc n) in
      eq-cases x.kind 5
      (λ k.
      let m : next_most x ≡ suc x.depth = rw (eq-eqb k) refl in
      record {
        held = λ d lo hi. lt-cases x.depth d
            (λ h. let e : suc x.depth ≡ d = omega arith in rw (nearest-here d n h, eq-eqb k, eq-eqb e) refl)
            (λ h. rw (nearest-before d n h) (O.held d lo (omega arith)));
        none = λ d h.
            let l : x.depth < d = omega arith in
            let e : suc x.depth ≢ d = λ q. omega arith in
            rw (nearest-here d n l, ne_eqb e, eq-eqb k) refl;
      })
      (λ k.
      let m : next_most x ≡ x.depth = rw (ne_eqb k) refl in
      record {
        held = λ d lo hi. rw (nearest-before d n (omega arith)) (O.held d lo (omega arith));
        none = λ d h. let l : x.depth < d = omega arith in rw (nearest-here d n l, ne_eqb k) refl;
      })

  -- ---- the search

  module _ (most n left : ℕ) (O : Open most n) {x : StoredEntry} (at : x ≡ stored_nth xs (suc n)) {o : Option Cause} (r : o ≡ stored_refusal x most) where
    entry-step : first (rows_from (stored_rows xs) (suc n) (suc left)) ≡ step o (suc n) (first (rows_from (stored_rows xs) (suc (suc n)) left))
    unfolding rows_from first stored_refusal
    entry-step =
        let y : StoredEntry = stored_nth xs (suc n) in
        let r' : o ≡ stored_refusal y most = rw at at r in
        let look = at-one-look most n O in
        bool_cases (form_ok Description (owned_entry 0 y))
        (λ f. bool_cases (nat_le y.depth most)
        (λ w. bool_cases (nat_le y.depth 32) (λ d. rw (r', stored_refusal, look, f, w, d)) (λ d. rw (r', stored_refusal, look, f, w, d)))
        (λ w. rw (r', stored_refusal, look, f, w)))
        (λ f. rw (r', stored_refusal, f))

    pub entry-more : o ≡ None
        → first (rows_from (stored_rows xs) (suc n) (suc left)) ≡ first (rows_from (stored_rows xs) (suc (suc n)) left)
    entry-more z = entry-step ∙ step-more _ _ _ z

    pub entry-found : {k : Cause} → o ≡ Some k → first (rows_from (stored_rows xs) (suc n) (suc left)) ≡ Faulty k (suc n)
    entry-found z = entry-step ∙ step-found _ _ _ z

    -- one that is not refused stands no deeper than may come next, and is at most 32 deep
    pub entry-placed : o ≡ None → (x.depth ≤ most) × (x.depth ≤ 32)
    unfolding stored_refusal
    entry-placed z =
        bool_cases (form_ok Description (owned_entry 0 x))
        (λ f. bool_cases (nat_le x.depth most)
        (λ w. bool_cases (nat_le x.depth 32) (λ d. (leb-le w, leb-le d)) (λ d. absurd (none-some Depth z (r ∙ rw (stored_refusal, f, w, d) refl))))
        (λ w. absurd (none-some Walking z (r ∙ rw (stored_refusal, f, w) refl))))
        (λ f. absurd (none-some Form z (r ∙ rw (stored_refusal, f) refl)))

  -- ---- the table of owners

  -- the table has the owner of an entry of each depth that may come next
  pub record Kept (last : List ℕ) (most n : ℕ) : Type 0 where
    pub size : length last ≡ 34
    pub few : most ≤ 33
    pub may : Open most n
    pub owner : (d : ℕ) → d ≤ most → get_or last d 0 ≡ nearest xs d n

  pub kept-start : {last : List ℕ} → length last ≡ 34 → last ≡ replicate 34 0 → Kept last 0 0
  unfolding nearest
  kept-start s e = record { size = s; few = omega arith; may = open-start; owner = λ d h. zeros-read 34 e d }

  module _ {last : List ℕ} {most n : ℕ} (K : Kept last most n) {x : StoredEntry} (at : x ≡ stored_nth xs (suc n)) (le : x.depth ≤ most) (small : x.depth ≤ 32) where
    here-le : (stored_nth xs (suc n)).depth ≤ most
    here-le = rw at at le

    pub kept-leaf : x.kind ≢ 5 → Kept last x.depth (suc n)
    kept-leaf k = record {
      size = K.size;
      few = omega arith;
      may = let m : next_most x ≡ x.depth = rw (ne_eqb k) refl in rw m at (rw (← at) at (open-more most n K.may here-le));
      owner = λ d h. K.owner d (omega arith) ∙ sym (nearest-before d n (rw (← at) h));
    }

    pub kept-every : x.kind ≡ 5 → Kept (set last (suc x.depth) (suc n)) (suc x.depth) (suc n)
    kept-every k = record {
      size = length-set last (suc x.depth) (suc n) ∙ K.size;
      few = omega arith;
      may = let m : next_most x ≡ suc x.depth = rw (eq-eqb k) refl in rw m at (rw (← at) at (open-more most n K.may here-le));
      owner = λ d h. eq-cases d (suc x.depth)
          (λ z. rw z (get_or-set_same last (suc x.depth) (suc n) 0 (omega (arith, K.size)) ∙ sym (nearest-here (suc x.depth) n (rw (← at) (omega arith)))))
          (λ z. get_or-set_other last (suc x.depth) d (suc n) 0 z ∙ K.owner d (omega arith) ∙ sym (nearest-before d n (rw (← at) (omega arith))));
    }
