-- The place below a link, by the 'every' entry that is found.
-- Assumes nothing.
use Prim.Native.Nat.{◌<◌, ◌≤◌, suc, ℕ}
use lib.Dec.{eqb}
use lib.ListN.{length}
use mathlib.Core.Bool.{false, true}
use mathlib.Core.List.{List, [], ◌∷◌, map}
use mathlib.Core.Logic.{◌≢◌}
use mathlib.Core.Path.{◌≡◌, ap, refl, sym}
use native.Mathlib.Omega.{arith}
use Rattle.base.proofs.Tests.{bool_cases, eq-cases, eq-eqb, ne_eqb}
use Rattle.blocks.proofs.Refusing.Legal.{owner-earlier}
use Rattle.blocks.specs.Entries.{nth}
use Rattle.blocks.specs.Owners.{owner_of}
use Rattle.blocks.specs.Promise.{Legal}
use Rattle.blocks.specs.declared.Entry.{Entry}
use Rattle.blocks.specs.declared.Schema.TheVariants.{Description}
use Rattle.logic.proofs.NormalForm.IsNormal.{canonical-sub}
use Rattle.logic.specs.Background.{Background, LawfulBackground}
use Rattle.logic.specs.Canonical.{Ascending, Canonical, canonical}
use Rattle.logic.specs.Normal.{is_end, sub}
use Rattle.logic.specs.Place.{Place}
use Rattle.logic.specs.Tree.{tree}
use Rattle.meaning.proofs.Descriptions.Lookups.{match-fields, match-within, sub-none, sub-some}
use Rattle.meaning.specs.Description.{place_of, row_of}
use Rattle.meaning.specs.Lookup.{entry_for, first_match}

-- an 'every' of a place that ascends owns something
every-owns : (i : ℕ) (es : List Entry) (v l : ℕ) → Ascending (tree i (map row_of es) v) → first_match i v 5 l es ≢ 0 → is_end (sub l (tree i (map row_of es) v)) ≡ false
unfolding tree row_of first_match sub
every-owns i [] v l a z = absurd (z refl)
every-owns i (e ∷ es) v l a z =
    eq-cases e.kind 5
    (λ q.
    let f : eqb e.kind 5 ≡ true = eq-eqb q in
    let g : eqb 5 e.kind ≡ true = eq-eqb (sym q) in
    bool_cases (eqb v e.owner)
    (λ y.
    let a' = rw (f, y) at a in
    let z' = rw (y, g) at z in
    bool_cases (eqb l e.name)
    (λ x. rw (f, y, x) a'.1)
    (λ x. rw (f, y, x) (every-owns (suc i) es v l a'.2 (rw x at z'))))
    (λ y. rw (f, y) (every-owns (suc i) es v l (rw (f, y) at a) (rw y at z))))
    (λ q.
    let f : eqb e.kind 5 ≡ false = ne_eqb q in
    let g : eqb 5 e.kind ≡ false = ne_eqb (λ y. q (sym y)) in
    bool_cases (eqb v e.owner)
    (λ y. rw (f, y) (every-owns (suc i) es v l (rw (f, y) at a).1 (rw (y, g) at z)))
    (λ y. rw (f, y) (every-owns (suc i) es v l (rw (f, y) at a) (rw y at z))))

pub ascending-in : {b : Background} {t : Place} → Canonical b t → Ascending t
ascending-in (canonical a c m k) = a

-- what entry j owns, an 'every' of link l in the place of entry v
pub record Below (b : Background) (es : List Entry) (v l j : ℕ) : Type 0 where
  pub later : v < j
  pub within : j ≤ length es
  pub kind : (nth es j).kind ≡ 5
  pub owner : (nth es j).owner ≡ v
  pub name : (nth es j).name ≡ l
  pub place : sub l (place_of es v) ≡ place_of es j
  pub some : is_end (sub l (place_of es v)) ≡ false
  pub normal : Canonical b (place_of es j)

module _ {b : Background} (law : LawfulBackground b) {es : List Entry} (legal : Legal Description es) (v l : ℕ) (c : Canonical b (place_of es v)) where
  pub every-none : entry_for es v 5 l ≡ 0 → is_end (sub l (place_of es v)) ≡ true
  every-none e = ap is_end (sub-none es legal v l e)

  pub every-some : {j : ℕ} → entry_for es v 5 l ≡ j → j ≢ 0 → Below b es v l j
  unfolding owner_of
  every-some {j} e z =
      let f = match-fields es v 5 l e z in
      let w : j ≤ length es = rw (← e) (match-within es v 5 l) in
      let p = sub-some es legal v l e z in
      record {
        later = omega (arith, owner-earlier legal j (omega arith) w, f.0);
        within = w;
        kind = f.1;
        owner = f.0;
        name = f.2;
        place = p;
        some = unfold place_of in every-owns 1 es v l (unfold place_of in ascending-in c) (rw e z);
        normal = rw p at (canonical-sub law l (place_of es v) c);
      }
