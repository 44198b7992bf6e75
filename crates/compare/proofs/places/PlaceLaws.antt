-- One place of the specimen: its properties and then its groups, with what the target asks for, from the tags of its runs.
-- Assumes nothing.
use Prim.Native.Nat.{◌%◌, ◌*◌, ◌+◌, ◌/◌, ◌≤◌, ℕ}
use lib.ListN.{get_or-eq_default, get_or, length, length-map}
use mathlib.Core.List.{List, Memᴰ, [], ◌∷◌, map}
use mathlib.Core.Path.{◌∙◌, ◌≡◌, ap, refl}
use native.Mathlib.Omega.{arith}
use Rattle.base.proofs.Elements.{member-at}
use Rattle.base.proofs.Tests.{eq-cases, eq-eqb, lt-cases, ne_eqb}
use Rattle.blocks.specs.declared.Entry.{Entry}
use Rattle.logic.proofs.TreeRows.LaidLaws.{leaf-length}
use Rattle.logic.proofs.TreeRows.LaidWalk.{numbers-length}
use Rattle.compare.proofs.specimen.SpecimenPlaces.{slot-within}
use Rattle.compare.specs.code.Asked.{code_asked, least_asked}
use Rattle.compare.specs.code.Codes.{PlacedBy, group_by, joints_by, numbers_by, properties_by, specimen_number, target_below, target_by, up_from}
use Rattle.logic.specs.Laying.{Joint, codes, joint_rows, leaf_rows}
use Rattle.compare.specs.code.Tags.{Run, Tagged, group_of, tag_name}
use Rattle.compare.specs.declared.items.Items.{Items}
use Rattle.std.specs.Prelude.{Option}
use Rattle.logic.proofs.TreeRows.FillLaws.{joined-after}
use Rattle.logic.specs.Filling.{Filled, Joined}
use Rattle.logic.specs.Place.{Kind, has, least}
use Rattle.logic.specs.SpecimenTree.{Group}
use Rattle.logic.specs.Witness.{target_links, target_properties, want}
use Rattle.passes.specs.code.Slots.{is_link}
use Rattle.slots.specs.code.TablePlaces.{Stood, least_in}
use Rattle.slots.specs.code.Tables.{low_part}

-- ---- lists

-- one map after another, where they agree on the elements
map-after : {A B C : Type 0} (f : A → C) (g : B → C) (h : A → B) (xs : List A) → ((x : A) → Memᴰ x xs → f x ≡ g (h x)) → map f xs ≡ map g (map h xs)
map-after f g h [] e = refl
map-after f g h (x ∷ xs) e = rw (e x (Memᴰ.head refl), map-after f g h xs (λ y i. e y (Memᴰ.tail i)))

-- as many as there are tags
pub as-many : {A : Type 0} (f : ℕ → A) (l : List ℕ) → length l ≡ length (map f l)
as-many f l = omega (arith, length-map l f)

-- ---- the tags of a run

module _ {t : List ℕ} (S : Stood t) where
  -- no slot asks for more items than two bytes count
  pub least-small : (j : ℕ) → least_in t j ≤ 65536
  unfolding least_in low_part
  least-small j =
      lt-cases j (length t)
      (λ h. omega (arith, S.lows j (omega arith)))
      (λ h. let z : get_or t j 0 ≡ 0 = get_or-eq_default t 0 h in rw z (eq-cases j 0 (λ q. rw (eq-eqb q) (omega arith)) (λ q. rw (ne_eqb q) (omega arith))))

  -- the tags of a run are tags of the table
  pub run-tagged : {v : ℕ} {a : Kind} {ys xs : List ℕ} → Run t v a ys xs → Tagged t xs
  run-tagged {v} {a} {xs = xs} r = record {
    name = λ i h. r.small _ (member-at 0 xs i h);
    slot = λ i h. omega (arith, r.slotted (get_or xs i 0) (member-at 0 xs i h), slot-within S v (is_link a) (tag_name (get_or xs i 0)), S.some');
  }

-- ---- a place

module _ (t links : List ℕ) (m : ℕ) (e : Entry) (c : ℕ) where
  -- the names of its properties
  pub properties-run : {ys xs : List ℕ} → target_properties (target_by links m e c) ≡ ys → Run t (c % 1024) has ys xs → map tag_name xs ≡ properties_by t links m e c
  properties-run q r = r.named ∙ rw (← q)

  -- its groups, where the link that is asked for is known
  pub groups-run : {ys xs : List ℕ} (asked : Option Items) → target_links (target_by links m e c) ≡ ys → ((x : ℕ) → want (target_by links m e c) x ≡ least_asked asked x)
      → ((x : ℕ) → 1024 * target_below (up_from links m) (c / 1024) x ≡ code_asked asked x) → Run t (c % 1024) least ys xs
      → map (group_of t asked) xs ≡ joints_by t links m e c
  groups-run {ys} {xs} asked q w k r =
      map-after (group_of t asked) (group_by t links m e c) tag_name xs (λ x i. rw (r.slotted x i, ← (w (tag_name x)), ← (k (tag_name x))))
      ∙ rw (r.named, ← q)

  -- the rows of its owner: n properties, then g groups
  module _ (o count cap : ℕ) {ps : List ℕ} (first : ps ≡ properties_by t links m e c) where
    whole : length (numbers_by t links m e o c) ≡ length (properties_by t links m e c) + length (joints_by t links m e c)
    whole = numbers-length specimen_number o (properties_by t links m e c) (joints_by t links m e c)

    -- the properties have room
    pub first-room : {n : ℕ} → n ≡ length ps → count + length (numbers_by t links m e o c) ≤ cap → count + n ≤ cap
    first-room l h = omega (arith, whole, ap length first)

    module _ {rows rows₁ : List ℕ} {js : List (Joint Group)} {k : ℕ} (p : Filled cap rows count (map specimen_number (leaf_rows o ps)) rows₁ k) (second : js ≡ joints_by t links m e c) where
      after : k ≡ count + length (properties_by t links m e c)
      after = omega (arith, p.total, length-map (leaf_rows {A = ℕ} {B = Group} o ps) specimen_number, leaf-length Group o ps, ap length first)

      -- the groups have room after them
      pub second-room : {g : ℕ} → g ≡ length js → count + length (numbers_by t links m e o c) ≤ cap → k + g ≤ cap
      second-room l h = omega (arith, after, whole, ap length second)

      -- both together
      pub place-done : {w : ℕ} {rows₂ below below₂ : List ℕ} {r : ℕ} → w ≡ cap
          → Joined w rows₁ k (map specimen_number (joint_rows o js)) below (k + 1) (codes js) rows₂ r below₂ → PlacedBy t links m e cap o c rows count below rows₂ r below₂
      place-done q j =
          let at : k + 1 ≡ count + length (properties_by t links m e c) + 1 = omega (arith, after) in
          joined-after (rw first at p) (rw (q, second) at j) at
