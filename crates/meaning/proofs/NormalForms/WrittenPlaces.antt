-- The rows that are written from a tree: each owner is the top or an 'every', and where the tree is normal, so is each place.
-- Assumes nothing.
use Prim.Native.Nat.{◌+◌, ◌<◌, ◌≤◌, suc, zero, ℕ}
use lib.ListN.{length}
use mathlib.Core.List.{List, [], ◌∷◌, map}
use mathlib.Core.Logic.{◌⊎◌, inl, inr}
use mathlib.Core.Path.{◌≡◌, refl}
use native.Mathlib.Nat.{add-suc, add-zero, suc-add}
use native.Mathlib.Numerals.{one-add}
use native.Mathlib.Omega.{arith}
use Rattle.blocks.specs.Entries.{nth}
use Rattle.blocks.specs.declared.Entry.{Entry}
use Rattle.logic.proofs.NormalForm.IsNormal.{canonical-sub}
use Rattle.logic.proofs.TreeRows.LayoutLaws.{write-early, write-reads}
use Rattle.logic.specs.Background.{Background, LawfulBackground}
use Rattle.logic.specs.Canonical.{Ascending, Canonical, canonical}
use Rattle.logic.specs.Layout.{Queue, done, job, later, lay, weight, write}
use Rattle.logic.specs.Place.{Atom, Place, atom}
use Rattle.logic.specs.Tree.{Early, Row, end, leaf, leaf_row, node, node_row, tree}
use Rattle.meaning.proofs.NormalForms.RowPlaces.{EveryRow, entry_of_row, every-row}
use Rattle.meaning.specs.RowEntries.{row_entry}

-- ---- owners

module _ (es : List Entry) where
  -- the top, or an 'every' entry
  abbrev pub Home : ℕ → Type 0
  Home o = (o ≡ 0) ⊎ ((nth es o).kind ≡ 5)

  -- the owners of the jobs are such
  abbrev Homes : Queue Place → Type 0
  Homes done = Unit {0}
  Homes (job o t q) = Home o × Homes q

  homes-later : (q : Queue Place) (k : ℕ) (t : Place) → Homes q → Home k → Homes (later q k t)
  unfolding later
  homes-later done k t h e = (e, tt)
  homes-later (job o t' q) k t h e = (h.0, homes-later q k t h.1 e)

  lay-homes : (f k : ℕ) (q : Queue Place) → ((i : ℕ) → nth es (k + i) ≡ entry_of_row (lay f k q) i) → Homes q
      → (i : ℕ) → i < length (lay f k q) → Home (entry_of_row (lay f k q) i).owner
  unfolding lay
  lay-homes zero k q at h i l = absurd (omega arith)
  lay-homes (suc f) k done at h i l = absurd (omega arith)
  lay-homes (suc f) k (job o end q) at h i l = lay-homes f k q at h.1 i l
  lay-homes (suc f) k (job o (leaf (atom a n m) r) q) at h zero l = h.0
  lay-homes (suc f) k (job o (leaf (atom a n m) r) q) at h (suc i) l =
      lay-homes f (suc k) (job o r q) (λ j. rw (suc-add, ← add-suc) (at (suc j))) h i (omega arith)
  lay-homes (suc f) k (job o (node b s r) q) at h zero l = h.0
  lay-homes (suc f) k (job o (node b s r) q) at h (suc i) l =
      let n : nth es k ≡ row_entry (node_row o b) = rw add-zero at (at 0) in
      lay-homes f (suc k) (job o r (later q k s)) (λ j. rw (suc-add, ← add-suc) (at (suc j)))
      (h.0, homes-later q k s h.1 (inr (rw n))) i (omega arith)

-- the owner of each row that is written is the top or an 'every'
pub write-homes : (t : Place) (i : ℕ) → i < length (write t) → Home (map row_entry (write t)) (entry_of_row (write t) i).owner
unfolding write nth
write-homes t i l = lay-homes (map row_entry (write t)) (weight t) 1 (job 0 t done) (λ j. rw one-add) (inl refl, tt) i l

-- an owner stands before what it owns
early-row : (k : ℕ) (rs : List (Row Atom ℕ)) → Early k rs → (i : ℕ) → i < length rs → (entry_of_row rs i).owner < k + i
early-row k [] h i l = absurd (omega arith)
early-row k (leaf_row o (atom a n m) ∷ rs) h zero l = omega (arith, h.0)
early-row k (node_row o b ∷ rs) h zero l = omega (arith, h.0)
early-row k (leaf_row o (atom a n m) ∷ rs) h (suc i) l = omega (arith, early-row (suc k) rs h.1 i (omega arith))
early-row k (node_row o b ∷ rs) h (suc i) l = omega (arith, early-row (suc k) rs h.1 i (omega arith))

-- ---- places

-- an ascending place of a normal one that is alive
pub canonical-ascends : {b : Background} {t : Place} → Canonical b t → Ascending t
canonical-ascends (canonical a c d s) = a

module _ {b : Background} (law : LawfulBackground b) (t : Place) (normal : Canonical b t) where
  -- the top is normal, and so is the place of an owner if that of an 'every' is
  home-canonical : (o : ℕ) → Home (map row_entry (write t)) o → ((nth (map row_entry (write t)) o).kind ≡ 5 → Canonical b (tree 1 (write t) o))
      → Canonical b (tree 1 (write t) o)
  home-canonical o (inl e) f = rw (e, write-reads t) normal
  home-canonical o (inr e) f = f e

  -- the place of an 'every' entry n is normal, by those of the owners before it
  every-canonical : (bound n : ℕ) → n < bound → n ≤ length (write t) → (nth (map row_entry (write t)) n).kind ≡ 5 → Canonical b (tree 1 (write t) n)
  unfolding nth
  every-canonical zero n u l e = absurd (omega arith)
  every-canonical (suc bound) zero u l e = absurd (omega arith)
  every-canonical (suc bound) (suc i) u l e =
      let rs : List (Row Atom ℕ) = write t in
      let o : ℕ = (entry_of_row rs i).owner in
      let name : ℕ = (entry_of_row rs i).name in
      let early : o < 1 + i = early-row 1 rs (write-early t) i (omega arith) in
      let parent : Canonical b (tree 1 rs o) =
      home-canonical o (write-homes t i (omega arith)) (λ z. every-canonical bound o (omega arith) (omega arith) z) in
      let x : EveryRow (tree 1 rs o) (tree 1 rs (suc i)) name =
      every-row 1 rs (write-early t) i (suc i) o name (omega arith) (omega arith) e refl refl (canonical-ascends parent) in
      rw (← x.below-link) (canonical-sub law name (tree 1 rs o) parent)

  -- the place of each row's owner is normal
  pub row-canonical : (i : ℕ) → i < length (write t) → Canonical b (tree 1 (write t) (entry_of_row (write t) i).owner)
  row-canonical i l =
      let o : ℕ = (entry_of_row (write t) i).owner in
      let early : o < 1 + i = early-row 1 (write t) (write-early t) i l in
      home-canonical o (write-homes t i l) (λ z. every-canonical (suc o) o (omega arith) (omega arith) z)
