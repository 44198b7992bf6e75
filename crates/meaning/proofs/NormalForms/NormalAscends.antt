-- The entries of a normal form ascend by owner, then kind, then name.
-- Assumes nothing.
use Prim.Native.Nat.{ℕ}
use mathlib.Core.Bool.{false}
use mathlib.Core.List.{List}
use mathlib.Core.Logic.{inl, inr}
use mathlib.Core.Path.{◌≡◌, refl}
use Rattle.base.specs.Ascending.{Sorted}
use Rattle.blocks.specs.declared.Entry.{Entry}
use Rattle.logic.proofs.NormalForm.IsNormal.{nf-normal}
use Rattle.logic.proofs.PlaceTrees.Lookup.{sub-head}
use Rattle.logic.proofs.PlaceTrees.Order.{sub-rest}
use Rattle.logic.specs.Background.{Background, LawfulBackground}
use Rattle.logic.specs.Canonical.{Above, Ascending, Canonical, Normal, canonical}
use Rattle.logic.specs.Normal.{is_end, nf, sub}
use Rattle.logic.specs.Place.{Atom, Place, atom}
use Rattle.logic.specs.Tree.{Row, end, leaf, leaf_row, node, node_row}
use Rattle.meaning.proofs.Descriptions.LaidAscends.{After, Deep, Keyed, laid-ascends}
use Rattle.meaning.specs.Description.{place_of}
use Rattle.meaning.specs.NormalEntries.{normal_entries}
use Rattle.meaning.specs.RowEntries.{entry_before, row_entry}

-- rows of places, as entries, go by owner, kind and name
keyed : (x : Row Atom ℕ) → Keyed row_entry x
keyed (leaf_row o (atom k n m)) = (refl, refl, refl)
keyed (node_row o l) = (refl, refl, refl)

-- what stands above a kind and name, by entries
after : (k n : ℕ) (t : Place) → Above k n t → After row_entry k n t
after k n end h = tt
after k n (leaf (atom k' n' m) r) h = (h.0, after k n r h.1)
after k n (node l s r) h = (h.0, after k n r h.1)

ascends : {b : Background} {t : Place} → Canonical b t → Ascending t
ascends (canonical a c m k) = a

below : {b : Background} {t : Place} → Canonical b t → (l : ℕ) → is_end (sub l t) ≡ false → Canonical b (sub l t)
below (canonical a c m k) = k

deep-places : {b : Background} (t : Place) → Ascending t → ((l : ℕ) → is_end (sub l t) ≡ false → Canonical b (sub l t)) → Deep row_entry t
unfolding sub
deep-places end a h = tt
deep-places (leaf (atom k n m) r) a h = (after _ _ r a.0, deep-places r a.1 h)
deep-places {b} (node l s r) a h =
    let first : Canonical b s = rw (sub-head l s r) at (h l (rw (sub-head l s r) a.1)) in
    (after _ _ r a.0, deep-places s (ascends first) (below first), deep-places r a.2 (λ l' z. let e = sub-rest l s r a.0 l' z in rw e at (h l' (rw e z))))

deep-normal : {b : Background} (t : Place) → Normal b t → Deep row_entry t
deep-normal t (inl e) = rw e (tt, tt)
deep-normal t (inr h) = deep-places t (ascends h) (below h)

-- [E11] entries ascend by owner, then kind, then name
pub normal-ascends : {b : Background} → LawfulBackground b → (es : List Entry) → Sorted entry_before (normal_entries b es)
unfolding normal_entries
normal-ascends {b} law es = laid-ascends row_entry keyed (nf b (place_of es 0)) (deep-normal _ (nf-normal law (place_of es 0)))
