-- The places of a description's slots under a background are normal, and the top is the normal form of the description.
-- Assumes nothing.
use Prim.Native.Nat.{◌<◌, suc, ℕ}
use lib.Dec.{eqb}
use mathlib.Core.Bool.{Bool, ◌&&◌, false, false≢true, not, true}
use mathlib.Core.List.Memᴰ
use mathlib.Core.List.{List, Memᴰ, [], ◌∷◌}
use mathlib.Core.Logic.{inl, inr, ⊎_elim}
use mathlib.Core.Option.{Option}
use mathlib.Core.Path.{◌∙◌, ◌≡◌, ap, refl, sym}
use Rattle.base.proofs.AscendingLaws.{sort-within}
use Rattle.base.proofs.Tests.{and_right, bool_cases, or_right, true_of_not}
use Rattle.base.specs.Ascending.{sort}
use Rattle.logic.proofs.NormalForm.IsNormal.{canonical-alive}
use Rattle.logic.proofs.OneMeaning.Unique.{only-normal}
use Rattle.logic.specs.Background.{Background, Keeps, LawfulBackground}
use Rattle.logic.specs.Canonical.{Canonical}
use Rattle.logic.specs.Normal.{bottom, is_bottom, is_end, nf}
use Rattle.logic.specs.Place.{Atom, Place}
use Rattle.logic.specs.Record.{Record, fits}
use Rattle.logic.specs.Tree.{Row, tree}
use Rattle.passes.proofs.CellPlaces.FormLists.{form-cells, form-formed}
use Rattle.passes.proofs.CellPlaces.FormMeaning.{cell_whole, cells-mean, inconsistent-cells, inconsistent-empty}
use Rattle.passes.proofs.CellPlaces.Forms.{Formed, formed-here, formed-next}
use Rattle.passes.proofs.Cells.CellLaws.{all-sort, cells-sorted}
use Rattle.passes.proofs.Cells.CellsTell.{cell_tells, restricted-tell}
use Rattle.passes.proofs.Cells.WrittenExcludes.{written-excluded}
use Rattle.passes.proofs.Cells.WrittenMeaning.{cell_fits, written-fits}
use Rattle.passes.proofs.Cells.WrittenNormal.{written-normal}
use Rattle.passes.proofs.Cells.WrittenPasses.{all_cells}
use Rattle.passes.proofs.SlotLists.BuildSound.{slots-sound}
use Rattle.passes.proofs.SlotLists.RestrictLaws.{excluded-restricted, under-distinct, under-early}
use Rattle.passes.proofs.SlotLists.RestrictMeaning.{restrict-asks}
use Rattle.passes.proofs.SlotLists.SlotLaws.{slots-early}
use Rattle.passes.proofs.SlotLists.SlotMeaning.{asks}
use Rattle.passes.specs.code.Forms.{form, kept, written}
use Rattle.passes.specs.code.Pipeline.{before_cell}
use Rattle.passes.specs.code.Restrict.{excluded_at, restrict, restrict_by, restricted_high, slots_under}
use Rattle.passes.specs.code.Slots.{DistinctSlots, EarlySlots, Slot, cell, cells, closed, inconsistent, slot, slots}

-- an 'every' that is written leads to a possible place
kept-possible : (T : ℕ → Place) (j : ℕ) (b d : Bool) (hi : Option ℕ) → kept T j b (closed (b && d) hi) ≡ true → d ≡ false
kept-possible T j true true hi e = absurd (false≢true (and_right (not (is_end (T j))) false e))
kept-possible T j true false hi e = refl
kept-possible T j false d hi e = absurd (false≢true e)

module _ {b : Background} (law : LawfulBackground b) where
  -- ---- normal places

  -- x tells which properties are excluded at each place
  module _ (x : ℕ → ℕ → Bool) (T : ℕ → Place) where
    -- a possible place, where those below it that are written are normal
    place-normal : (k : ℕ) (ss : List Slot) (v : ℕ) → DistinctSlots (restrict_by b x ss)
        → inconsistent k (restrict_by b x ss) v ≡ false → ((p : ℕ) → excluded_at b ss v p ≡ true → x v p ≡ true)
        → ((j : ℕ) (d : Bool) (n lo : ℕ) (hi : Option ℕ) → Memᴰ (cell j d n lo hi) (cells k (restrict_by b x ss) v)
        → kept T j d hi ≡ true → Canonical b (T j))
        → Canonical b (written T (sort before_cell (cells k (restrict_by b x ss) v)))
    place-normal k ss v d z e f =
        let ss' : List Slot = restrict_by b x ss in
        let w : all_cells cell_whole (cells k ss' v) ≡ true
        = true_of_not (all_cells cell_whole (cells k ss' v)) (sym (inconsistent-cells k ss' v) ∙ z) in
        written-normal law (x v) T (sort before_cell (cells k ss' v)) (cells-sorted k ss' v d)
        (all-sort cell_whole (cells k ss' v) ∙ w)
        (all-sort (cell_tells b (x v)) (cells k ss' v) ∙ restricted-tell law x k ss v w)
        (λ p h. e p (sym (written-excluded b p T k ss' v ∙ excluded-restricted b x ss v p) ∙ h))
        (λ j d n lo hi m. f j d n lo hi (sort-within before_cell (cells k ss' v) (cell j d n lo hi) m))

    below-normal : (k : ℕ) (ss : List Slot) → EarlySlots k (restrict_by b x ss) → DistinctSlots (restrict_by b x ss)
        → Formed T k (restrict_by b x ss) → ((v p : ℕ) → excluded_at b ss v p ≡ true → x v p ≡ true) → (v j : ℕ) (d : Bool) (n lo : ℕ) (hi : Option ℕ)
        → Memᴰ (cell j d n lo hi) (cells k (restrict_by b x ss) v) → kept T j d hi ≡ true → Canonical b (T j)
    unfolding cells restrict_by excluded_at
    below-normal k [] e d h g v j c n lo hi m y = absurd (Memᴰ.not-nil m)
    below-normal k (slot u c₀ n₀ lo₀ hi₀ ∷ ss) e d h g v j c n lo hi m y =
        let ss' : List Slot = restrict_by b x ss in
        let hi₁ : Option ℕ = restricted_high b c₀ (x u n₀) n₀ lo₀ hi₀ in
        let s : Slot = slot u c₀ n₀ lo₀ hi₁ in
        let g' : (v p : ℕ) → excluded_at b ss v p ≡ true → x v p ≡ true
        = λ v p z. g v p (or_right (eqb v u && (not c₀ && (not (eqb lo₀ 0) && b.excludes n₀ p))) z) in
        let ih : (v j : ℕ) (c : Bool) (n lo : ℕ) (hi : Option ℕ) → Memᴰ (cell j c n lo hi) (cells (suc k) ss' v)
        → kept T j c hi ≡ true → Canonical b (T j)
        = below-normal (suc k) ss e.1 d.1 (formed-next T k s ss' e h) g' in
        bool_cases (eqb v u)
        (λ q. ⊎_elim
        (λ i.
        let ij : j ≡ k = cc in
        let ib : c ≡ c₀ = cc in
        let ih' : hi ≡ closed (c₀ && inconsistent (suc k) ss' k) hi₁ = cc in
        let z : inconsistent (suc k) ss' k ≡ false
        = kept-possible T k c₀ (inconsistent (suc k) ss' k) hi₁ (rw (ij, ib, ih') at y) in
        rw (ij, formed-here T k s ss' e h) (place-normal (suc k) ss k d.1 z (g' k) (ih k)))
        (λ i. ih v j c n lo hi i y)
        (Memᴰ.cases_cons (rw q at m)))
        (λ q. ih v j c n lo hi (rw q at m) y)

  -- ---- the places of the slots of a description

  module _ (rs : List (Row Atom ℕ)) where
    abbrev ss : List Slot
    ss = slots_under b rs

    -- a possible place is normal
    pub form-normal : (v : ℕ) → inconsistent 1 (slots_under b rs) v ≡ false → Canonical b (form (slots_under b rs) v)
    unfolding slots_under restrict
    form-normal v z =
        let x : ℕ → ℕ → Bool = excluded_at b (slots rs) in
        rw (form-cells b rs v)
        (place-normal x (form ss) 1 (slots rs) v (under-distinct b rs) z (λ p e. e)
        (below-normal x (form ss) 1 (slots rs) (under-early b rs) (under-distinct b rs) (form-formed b rs) (λ v p e. e) v))

    -- ---- the top

    top-means : (c : Record) → Keeps b c → (x : ℕ) → x < c.size
        → all_cells (cell_fits c (form ss) x) (cells 1 ss 0) ≡ fits c (tree 1 rs 0) x
    top-means c keeps x i =
        let same : asks c 1 ss (λ v x. true) 0 x ≡ asks c 1 (slots rs) (λ v x. true) 0 x
        = unfold slots_under in restrict-asks c keeps (slots rs) (slots-early rs) 0 x i in
        cells-mean c (form ss) 1 ss (under-early b rs) (form-formed b rs) 0 x i ∙ same ∙ slots-sound c rs x

    -- a possible top is the normal form
    pub form-top : inconsistent 1 (slots_under b rs) 0 ≡ false → form (slots_under b rs) 0 ≡ nf b (tree 1 rs 0)
    form-top z =
        only-normal law (form ss 0) (tree 1 rs 0) (inr (form-normal 0 z))
        (λ c keeps x i. ap (λ (t : Place). fits c t x) (form-cells b rs 0) ∙ written-fits c (form ss) x _
        ∙ all-sort (cell_fits c (form ss) x) (cells 1 ss 0) ∙ top-means c keeps x i)

    -- an impossible top: nothing fits
    pub top-nothing : inconsistent 1 (slots_under b rs) 0 ≡ true → nf b (tree 1 rs 0) ≡ bottom
    unfolding fits
    top-nothing z =
        sym (only-normal law bottom (tree 1 rs 0) (inl refl)
        (λ c keeps x i. sym (inconsistent-empty c (form ss) x 1 ss 0 z) ∙ top-means c keeps x i))

    -- the second pass tells which it is
    pub top-bottom : is_bottom (nf b (tree 1 rs 0)) ≡ inconsistent 1 (slots_under b rs) 0
    unfolding is_bottom
    top-bottom =
        bool_cases (inconsistent 1 ss 0)
        (λ z. rw (z, top-nothing z))
        (λ z. rw (z, ← (form-top z)) (canonical-alive (form-normal 0 z)))
