-- A place joined with an empty one is empty.
-- Assumes nothing.
use Prim.Native.Nat.{ℕ}
use lib.Dec.{eqb}
use mathlib.Core.Bool.{false≢true, true}
use mathlib.Core.Option.{some}
use mathlib.Core.Path.{◌∙◌, ◌≡◌, ap, refl, sym}
use Rattle.base.proofs.Tests.{and_right, bool_cases, both_ways, false_of_not, leb-self, or_left}
use Rattle.logic.proofs.PlaceTrees.Lookup.{find_head, is-end, sub-head}
use Rattle.logic.specs.Background.{Background, LawfulBackground}
use Rattle.logic.specs.Canonical.{Ascending, Canonical, canonical, telling}
use Rattle.logic.specs.Normal.{at_most, excluded, find, is_end, sub, supports}
use Rattle.logic.specs.Place.{Kind, Place, atom, has, lacks, least, most, nothing}
use Rattle.logic.specs.Tree.{end, leaf, node}
use Rattle.narrow.specs.Joined.{Joined, joined}
use Rattle.passes.proofs.Cells.CellsTell.{cap-open}

-- a place that lists nothing and owns nothing
nothing-left : (j : Place) → Ascending j → ((k : Kind) (n m : ℕ) → find k n j ≡ some m → ⊥) → ((l : ℕ) → sub l j ≡ end) → j ≡ end
nothing-left end a f g = refl
nothing-left (leaf (atom k n m) r) a f g = absurd (f k n m (find_head k n m r))
nothing-left (node l s r) a f g =
    let e : s ≡ end = sym (sub-head l s r) ∙ g l in
    both_ways (ap is_end e) a.1

module _ (b : Background) where
  -- an atom that a normal place lists is not said by an empty place
  unsaid : (k : Kind) (n m : ℕ) (j : Place) → telling b j (atom k n m) ≡ true → supports b end (atom k n m) ≡ true → ⊥
  unfolding find excluded
  unsaid has n m j x y = false≢true y
  unsaid lacks n m j x y = false≢true y
  unsaid least n m j x y = both_ways y (false_of_not (eqb m 0) x)
  unsaid most n m j x y = both_ways y (false_of_not (at_most m (b.cap n)) x)
  unsaid nothing n m j x y = false≢true y

  -- and is said by the place
  listed-says : (k : Kind) (n m : ℕ) (j : Place) → find k n j ≡ some m → telling b j (atom k n m) ≡ true → supports b j (atom k n m) ≡ true
  listed-says has n m j e x = rw e refl
  listed-says lacks n m j e x = rw e refl
  listed-says least n m j e x = rw e (leb-self m)
  listed-says most n m j e x = rw e (or_left (at_most m (b.cap n)) (leb-self m))
  listed-says nothing n m j e x = absurd (false≢true x)

module _ {b : Background} (law : LawfulBackground b) where
  pub empty-joined : {t u j : Place} → Joined b t u j → u ≡ end → Canonical b j → j ≡ end
  unfolding sub find
  empty-joined {t} {u} {j} (joined s g h k r) e (canonical a c d n) =
      nothing-left j a
      (λ q x m f.
      let y = (c q x m f).1 in
      unsaid b q x m j y (ap (λ (v : Place). supports b v (atom q x m)) (sym e) ∙ and_right (supports b t (atom q x m)) (supports b u (atom q x m)) (sym (s (atom q x m)) ∙ listed-says b q x m j f y)))
      (λ l. bool_cases (is_end (sub l j))
      (λ z. is-end (sub l j) z)
      (λ z.
      let i : sub l u ≡ end = rw e refl in
      bool_cases (supports b t (atom most l 0))
      (λ x. g l x ∙ i)
      (λ x. bool_cases (is_end (sub l t))
      (λ y. k l (rw (y, i) refl))
      (λ y. empty-joined (r l x (rw e (cap-open law l)) (rw y refl)) i (n l z)))))
