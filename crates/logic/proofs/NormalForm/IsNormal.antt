-- A normal form is normal.
-- Assumes nothing.
use Prim.Native.Nat.{ℕ}
use lib.Dec.{eqb}
use mathlib.Core.Bool.{false, false≢true, true≢false}
use mathlib.Core.Logic.{inl, inr}
use mathlib.Core.Path.{◌∙◌, ◌≡◌, ap, refl, sym}
use Rattle.base.proofs.Missing.{not-true, some-none}
use Rattle.base.proofs.Tests.{bool_cases, both_ways, eqb-eq}
use Rattle.logic.proofs.PlaceTrees.Ascend.{ascending-put_every}
use Rattle.logic.proofs.PlaceTrees.Inserted.{insert-normal}
use Rattle.logic.proofs.PlaceTrees.Listed.{FromEither, clash-either, not-implied, telling-either}
use Rattle.logic.proofs.PlaceTrees.Lookup.{find_head, is-end, same_rank}
use Rattle.logic.proofs.PlaceTrees.Passes.{find-put_every, find-remove_every, sub-put_every-other, sub-put_every-same, sub-remove_every-other, sub-remove_every-same}
use Rattle.logic.proofs.PlaceTrees.Thinner.{ascending-thinner, thinner-remove_every}
use Rattle.logic.specs.Background.{Background, LawfulBackground}
use Rattle.logic.specs.Canonical.{Ascending, Canonical, Normal, canonical, telling}
use Rattle.logic.specs.Normal.{add, fill, find, is_bottom, is_end, nf, put_every, remove_every, sub, supports, within}
use Rattle.logic.specs.Place.{Kind, Place, atom, most, nothing}
use Rattle.logic.specs.Tree.{end, leaf, node}

module _ {b : Background} (law : LawfulBackground b) where
  -- an empty place is normal
  pub canonical-end : Canonical b end
  unfolding sub find
  canonical-end =
      canonical tt (λ k n m e. some-none e refl) (λ l e. absurd (true≢false e)) (λ l e. absurd (true≢false e))

  -- so is the place below a normal one, if any
  pub canonical-sub : (l : ℕ) (t : Place) → Canonical b t → Canonical b (sub l t)
  canonical-sub l t (canonical a c d s) =
      bool_cases (is_end (sub l t))
      (λ e. rw (is-end (sub l t) e) canonical-end)
      (λ e. s l e)

  -- a normal place that is not bottom
  pub alive : (t : Place) → Normal b t → is_bottom t ≡ false → Canonical b t
  unfolding is_bottom
  alive t (inl e) h = both_ways (rw e) h
  alive t (inr c) h = c

  -- a normal place with the place s below it by a link that had none
  pub canonical-below : (l : ℕ) (s t : Place) → Canonical b t → Canonical b s → is_end s ≡ false → supports b t (atom most l 0) ≡ false
      → Canonical b (put_every l s (remove_every l t))
  canonical-below l s t (canonical a c d below) h w y =
      let u : Place = put_every l s (remove_every l t) in
      let find-u : (k : Kind) (n : ℕ) → find k n u ≡ find k n t = λ k n. find-put_every k n l s (remove_every l t) ∙ find-remove_every k n l t in
      let old : FromEither u t t = record { listed = λ k n q e. inl (sym (find-u k n) ∙ e) } in
      let a' : Ascending (remove_every l t) = ascending-thinner (thinner-remove_every l t) a in
      let same-u : sub l u ≡ s = sub-put_every-same l s (remove_every l t) a' (sub-remove_every-same l t a) in
      let other-u : (l' : ℕ) → eqb l' l ≡ false → sub l' u ≡ sub l' t
      = λ l' e. sub-put_every-other l s l' (remove_every l t) e ∙ sub-remove_every-other l l' t e in
      canonical {t = u}
      (ascending-put_every l s (remove_every l t) a' (sub-remove_every-same l t a) w)
      (λ k n m e.
      let o = c k n m (sym (find-u k n) ∙ e) in
      (clash-either old b (atom k n m) o.0 o.0, telling-either old b k n m o.1 (not-implied b t k n m o.1)))
      (λ l' i. rw (find-u most l') (bool_cases (eqb l' l)
      (λ q. let j : l' ≡ l = eqb-eq q in rw j y)
      (λ q. d l' (rw (other-u l' q) at i))))
      (λ l' i. bool_cases (eqb l' l)
      (λ q. let j : l' ≡ l = eqb-eq q in rw (j, same-u) h)
      (λ q. rw (other-u l' q) (below l' (rw (other-u l' q) at i))))

  -- a normal place with what f adds under a link is normal
  pub within-normal : (l : ℕ) (f : Place → Place) → ((u : Place) → Normal b u → Normal b (f u)) → (t : Place) → Normal b t
      → Normal b (within b l f t)
  unfolding within fill is_bottom
  within-normal l f g t (inl e) = inl (rw e)
  within-normal l f g t (inr h) =
      bool_cases (is_bottom t)
      (λ z. rw z (inr h))
      (λ z. bool_cases (supports b t (atom most l 0))
      (λ y. rw (z, y) (inr h))
      (λ y. bool_cases (is_bottom (f (sub l t)))
      (λ x. rw (z, y, x) (insert-normal law (atom most l 0) t (inr h)))
      (λ x. bool_cases (is_end (f (sub l t)))
      (λ w. rw (z, y, x, w) (inr h))
      (λ w. rw (z, y, x, w) (inr (canonical-below l (f (sub l t)) t h (alive (f (sub l t)) (g (sub l t) (inr (canonical-sub l t h))) x) w y))))))

  -- a normal place with the entries of a place added is normal
  pub add-normal : (d t : Place) → Normal b t → Normal b (add b d t)
  unfolding add
  add-normal end t h = h
  add-normal (leaf a r) t h = insert-normal law a (add b r t) (add-normal r t h)
  add-normal (node l s r) t h = within-normal l (λ u. add b s u) (λ u i. add-normal s u i) (add b r t) (add-normal r t h)

  pub nf-normal : (d : Place) → Normal b (nf b d)
  unfolding nf
  nf-normal d = add-normal d end (inr canonical-end)

-- a normal place other than `bottom` is alive
pub canonical-alive : {b : Background} {t : Place} → Canonical b t → is_bottom t ≡ false
unfolding is_bottom
canonical-alive {t = end} h = refl
canonical-alive {b} {t = leaf (atom k n m) r} (canonical a c d s) =
    not-true (λ z.
    let i : nothing ≡ k = same_rank nothing k z in
    false≢true (ap (λ (x : Kind). telling b (leaf (atom k n m) r) (atom x n m)) i ∙ (c k n m (find_head k n m r)).1))
canonical-alive {t = node l s r} h = refl
