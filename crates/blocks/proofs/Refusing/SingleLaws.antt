-- Groups by links that lead to one item only: the items that they bring add up, and which entries break number 9.
-- Assumes nothing.
use Rattle.std.proofs.Common.{◌≡◌, ℕ, zero, suc, ◌+◌, ◌-◌, ◌<◌, ◌≤◌, Bool, true, false, not, ◌&&◌, eqb, ltb, ◌≢◌, List, sym, refl, ap, ◌∙◌, sub-one, arith}
use Rattle.base.proofs.Tests.{and_both, and_left, and_right, bool_cases, eq-cases, eqb-eq, eqb-self, ge-ltb, lt-cases, lt-ltb, ltb-ge, not-to-false, not-to-true}
use Rattle.base.specs.Links.{is_single}
use Rattle.base.specs.Range.{sum}
use Rattle.blocks.specs.Entries.{nth}
use Rattle.blocks.specs.Owners.{owner_of}
use Rattle.blocks.specs.Single.{items_for, items_up_to, single_group, single_ok}
use Rattle.blocks.specs.declared.Entry.{Entry}

-- ---- the items of an owner and a link

-- none yet, and those of one entry more
pub items-none : (es : List Entry) (o l : ℕ) → items_up_to es o l 0 ≡ 0
unfolding items_up_to sum
items-none es o l = refl

pub items_more : (es : List Entry) (o l n : ℕ) → items_up_to es o l (suc n) ≡ items_up_to es o l n + items_for o l (nth es (suc n))
unfolding items_up_to sum
items_more es o l n = refl

pub items-here : (es : List Entry) (o l k : ℕ) → k ≢ 0 → items_up_to es o l k ≡ items_up_to es o l (k - 1) + items_for o l (nth es k)
items-here es o l zero z = absurd (z refl)
items-here es o l (suc k) z = rw sub-one (items_more es o l k)

-- they do not fall
pub items-rise : (es : List Entry) (o l m n : ℕ) → m ≤ n → items_up_to es o l m ≤ items_up_to es o l n
items-rise es o l m zero h = let z : m ≡ 0 = omega arith in rw z (omega arith)
items-rise es o l m (suc n) h =
    eq-cases m (suc n)
    (λ q. rw q (omega arith))
    (λ q. omega (arith, items_more es o l n, items-rise es o l m n (omega arith)))

-- a group adds its items to those of its owner and link
pub group-adds : (e : Entry) → eqb e.kind 7 ≡ true → items_for e.owner e.name e ≡ suc e.number
group-adds e h = rw (h, eqb-self e.owner, eqb-self e.name)

-- an entry adds nothing, or it is a group of the owner by the link
pub adds-cases : {A : Type 0} (o l : ℕ) (e : Entry) → (items_for o l e ≡ 0 → A) → (eqb e.kind 7 ≡ true → o ≡ e.owner → l ≡ e.name → A) → A
adds-cases o l e nothing group =
    let here = eqb o e.owner && eqb l e.name in
    bool_cases (eqb e.kind 7 && here)
    (λ q.
    let h = and_right (eqb e.kind 7) here q in
    group (and_left (eqb e.kind 7) here q) (eqb-eq (and_left (eqb o e.owner) (eqb l e.name) h)) (eqb-eq (and_right (eqb o e.owner) (eqb l e.name) h)))
    (λ q. nothing (rw q))

-- ---- number 9

module _ (es : List Entry) (n : ℕ) where
  -- the items of the owner and the link of entry n, up to and with it
  abbrev brought : ℕ
  brought = items_up_to es (owner_of es n) (nth es n).name n

  -- an entry of another kind or link does not break it
  pub other-ok : single_group (nth es n) ≡ false → single_ok es n ≡ true
  unfolding single_ok
  other-ok q = rw (single_ok, q)

  -- such a group does exactly where its owner has more than one item then
  pub above-not : single_group (nth es n) ≡ true → 1 < brought → single_ok es n ≡ false
  unfolding single_ok
  above-not q h = rw (single_ok, q, lt-ltb h)

  pub below-ok : single_group (nth es n) ≡ true → brought ≤ 1 → single_ok es n ≡ true
  unfolding single_ok
  below-ok q h = rw (single_ok, q, ge-ltb h)

  pub ok-below : single_ok es n ≡ true → single_group (nth es n) ≡ true → brought ≤ 1
  unfolding single_ok
  ok-below h q =
      bool_cases (ltb 1 brought)
      (λ b. let f : false ≡ true = rw (single_ok, q, b) at h in let z : ◌≡◌ {A = ℕ} 0 1 = cc in absurd (omega arith))
      (λ b. ltb-ge b)

-- entry m + 1, which is e, after the first m
module _ (es : List Entry) (m : ℕ) {e : Entry} (at : e ≡ nth es (m + 1)) where
  -- the items of its owner by its link up to and with it, where it is such a group
  brings-own : single_group e ≡ true → brought es (m + 1) ≡ items_up_to es e.owner e.name m + suc e.number
  unfolding owner_of
  brings-own q =
      let here = items-here es e.owner e.name (m + 1) (λ z. omega arith) in
      let own : items_for e.owner e.name (nth es (m + 1)) ≡ suc e.number =
      rw (← at) (group-adds e (and_left (eqb e.kind 7) (is_single e.name) q)) in
      let back : m + 1 - 1 ≡ m = omega arith in
      let owner : owner_of es (m + 1) ≡ e.owner = ap (λ (x : Entry). x.owner) (sym at) in
      let name : (nth es (m + 1)).name ≡ e.name = ap (λ (x : Entry). x.name) (sym at) in
      rw (owner, name) (rw (back, own) at here)

  pub nine-other : single_group e ≡ false → false ≡ not (single_ok es (m + 1))
  nine-other q = sym (not-to-false (other-ok es (m + 1) (rw at at q)))

  pub nine-many : single_group e ≡ true → 0 < e.number → true ≡ not (single_ok es (m + 1))
  nine-many q h = sym (not-to-true (above-not es (m + 1) (rw at at q) (omega (arith, brings-own q))))

  pub nine-met : {r : Bool} → single_group e ≡ true → e.number ≤ 0 → r ≡ ltb 0 (items_up_to es e.owner e.name m) → r ≡ not (single_ok es (m + 1))
  nine-met q h f =
      lt-cases 0 (items_up_to es e.owner e.name m)
      (λ b. f ∙ rw (lt-ltb b) (sym (not-to-true (above-not es (m + 1) (rw at at q) (omega (arith, brings-own q))))))
      (λ b. f ∙ rw (ge-ltb b) (sym (not-to-false (below-ok es (m + 1) (rw at at q) (omega (arith, brings-own q))))))

-- entries of which none breaks it bring no owner above one item by such a link
pub single-most : (es : List Entry) (o l : ℕ) → is_single l ≡ true → (n : ℕ) → ((k : ℕ) → 1 ≤ k → k ≤ n → single_ok es k ≡ true) → items_up_to es o l n ≤ 1
unfolding owner_of
single-most es o l s zero h = omega (arith, items-none es o l)
single-most es o l s (suc n) h =
    adds-cases o l (nth es (suc n))
    (λ z. omega (arith, items_more es o l n, single-most es o l s n (λ k lo hi. h k lo (omega arith))))
    (λ q own name.
    let group : single_group (nth es (suc n)) ≡ true = and_both q (rw name at s) in
    rw (own, name) (ok-below es (suc n) (h (suc n) (omega arith) (omega arith)) group))
