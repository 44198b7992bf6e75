-- A place lacks a property where it has a partner of it.
-- Assumes nothing.
use Prim.Native.Nat.{ℕ}
use lib.Dec.{eqb}
use lib.ListN.{get_or}
use mathlib.Core.Bool.{Bool, ◌&&◌, false, not, true}
use mathlib.Core.List.{List, [], ◌∷◌}
use mathlib.Core.Path.{◌∙◌, ◌≡◌, refl, sym}
use Rattle.base.proofs.Tests.{and_both, and_left, and_right, both_ways, eqb-eq, eqb-self, eqb-sym, or_cases, or_left, or_right}
use Rattle.pairs.proofs.IndexLaws.{partners-end, partners-start}
use Rattle.pairs.proofs.Partners.{Partner, partnered-any, partnered-is}
use Rattle.pairs.specs.Pairs.{excludes_in, under}
use Rattle.pairs.specs.code.Index.{PairsIndexed, bucket_of, named_count, partnered}
use Rattle.passes.specs.code.Restrict.{excluded_at, has_at}
use Rattle.passes.specs.code.Slots.{Slot, same_key, slot}

-- ---- on lists

-- the key of a property
pub same-property : (u : ℕ) (d : Bool) (n v q : ℕ) → same_key u d n v false q ≡ (eqb v u && (not d && eqb n q))
same-property u true n v q = rw (eqb-sym u v)
same-property u false n v q = rw (eqb-sym u v)

module _ (P : List ℕ) (v p : ℕ) where
  -- a place has what excludes p exactly where it has a partner of p
  excluded-partner : (ss : List Slot) → excluded_at (under P) ss v p ≡ true → Partner P (has_at ss v) p
  unfolding excluded_at has_at
  excluded-partner [] t = both_ways t refl
  excluded-partner (slot u d n lo hi ∷ ss) t =
      or_cases (eqb v u && (not d && (not (eqb lo 0) && excludes_in P n p))) (excluded_at (under P) ss v p) t
      (λ h.
      let a = and_right (eqb v u) _ h in
      let b = and_right (not d) _ a in
      let key : same_key u d n v false n ≡ true
      = same-property u d n v n ∙ and_both (and_left (eqb v u) _ h) (and_both (and_left (not d) _ a) (eqb-self n)) in
      record {
        name = n;
        held = or_left (has_at ss v n) (and_both key (and_left (not (eqb lo 0)) _ b));
        excluding = and_right (not (eqb lo 0)) _ b;
      })
      (λ h.
      let x = excluded-partner ss h in
      record { name = x.name; held = or_right (same_key u d n v false x.name && not (eqb lo 0)) x.held; excluding = x.excluding })

  partner-excluded : (ss : List Slot) (q : ℕ) → has_at ss v q ≡ true → excludes_in P q p ≡ true → excluded_at (under P) ss v p ≡ true
  unfolding excluded_at has_at
  partner-excluded [] q t x = both_ways t refl
  partner-excluded (slot u d n lo hi ∷ ss) q t x =
      or_cases (same_key u d n v false q && not (eqb lo 0)) (has_at ss v q) t
      (λ h.
      let key : (eqb v u && (not d && eqb n q)) ≡ true = sym (same-property u d n v q) ∙ and_left (same_key u d n v false q) _ h in
      let a = and_right (eqb v u) _ key in
      let e : n ≡ q = eqb-eq (and_right (not d) _ a) in
      or_left (excluded_at (under P) ss v p)
      (and_both (and_left (eqb v u) _ key) (and_both (and_left (not d) _ a) (and_both (and_right (same_key u d n v false q) _ h) (rw e x)))))
      (λ h. or_right (eqb v u && (not d && (not (eqb lo 0) && excludes_in P n p))) (partner-excluded ss q h x))

  pub excluded-partnered : (ss : List Slot) → excluded_at (under P) ss v p ≡ partnered P (has_at ss v) p (named_count P)
  excluded-partnered ss = partnered-is P (has_at ss v) p (excluded-partner ss) (λ x. partner-excluded ss x.name x.held x.excluding)

  -- a property whose bucket in the index is empty is excluded nowhere
  pub not-excluded : {index : List ℕ} → PairsIndexed P index → get_or index (bucket_of p) 0 ≡ 0 → (ss : List Slot) → excluded_at (under P) ss v p ≡ false
  not-excluded I z ss = excluded-partnered ss ∙ partnered-any P (has_at ss v) p _ ∙ rw (sym (partners-start I p (sym z)) ∙ partners-end P p refl) refl
