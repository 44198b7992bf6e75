-- Fitting by groups and by entry numbers, as the code goes. No public promise names these: proofs/ shows that they
-- give the answer in the record of items.
-- Assumes nothing.
use Rattle.std.specs.Prelude.{Bool, false, not, cond, ◌&&◌, ◌||◌, List, ℕ, zero, suc, leb, eqb, length}
use Rattle.blocks.specs.Entries.{nth}
use Rattle.blocks.specs.Owners.{owner_of}
use Rattle.blocks.specs.Single.{items_up_to}
use Rattle.blocks.specs.declared.Entry.{Entry}
use Rattle.fit.specs.code.Bare.{bare, bare_fits}
use Rattle.meaning.specs.Owned.{all_owned}

-- entry k gives property p; it is a group by link l
abbrev pub gives_property : List Entry → ℕ → ℕ → Bool
gives_property s p k = eqb (nth s k).kind 1 && eqb (nth s k).name p

abbrev pub is_group : List Entry → ℕ → ℕ → Bool
is_group s l k = eqb (nth s k).kind 7 && eqb (nth s k).name l

-- the items of group g have property p
unfoldable pub has_property : List Entry → ℕ → ℕ → Bool
has_property s g p = not (all_owned (λ k. not (gives_property s p k)) s g (length s))

-- the items that an item of group g is linked to by l: [F9] groups of one owner and link add up
abbrev pub total_by : List Entry → ℕ → ℕ → ℕ
total_by s g l = items_up_to s g l (length s)

-- each group of owner g by link l passes
unfoldable pub groups_by : (ℕ → Bool) → List Entry → ℕ → ℕ → Bool
groups_by p s g l = all_owned (λ k. not (is_group s l k) || p k) s g (length s)

-- one of them owns nothing
abbrev pub has_bare : List Entry → ℕ → ℕ → Bool
has_bare s g l = not (groups_by (λ h. not (bare s h)) s g l)

-- The items of group g of specimen s meet entry e of description d, which may be followed down for `left` levels more. No accepted
-- description is followed down to the last of them; where doubt were left, the answer would be no. Of an 'every', the groups that own
-- nothing are judged together, by whether an item with nothing fits the place.
unfoldable pub meets_entry : ℕ → List Entry → List Entry → ℕ → ℕ → Bool
meets_entry zero s d g e = false
meets_entry (suc left) s d g e =
    cond (eqb (nth d e).kind 1) (has_property s g (nth d e).name)
    (cond (eqb (nth d e).kind 2) (not (has_property s g (nth d e).name))
    (cond (eqb (nth d e).kind 3) (leb (nth d e).number (total_by s g (nth d e).name))
    (cond (eqb (nth d e).kind 4) (leb (total_by s g (nth d e).name) (nth d e).number)
    (cond (eqb (nth d e).kind 5)
    ((bare_fits d e || not (has_bare s g (nth d e).name)) && groups_by (λ h. bare s h || all_owned (meets_entry left s d h) d e (length d)) s g (nth d e).name) false))))

-- the items of group g fit the place that entry o of d owns
abbrev pub fits_place : ℕ → List Entry → List Entry → ℕ → ℕ → Bool
fits_place left s d g o = all_owned (meets_entry left s d g) d o (length d)

-- group k, where it is one by link l and owns something, fits the place that entry e owns, followed down for so many levels
abbrev pub group_fits : ℕ → List Entry → List Entry → ℕ → ℕ → ℕ → Bool
group_fits left s d e l k = not (is_group s l k) || (bare s k || fits_place left s d k e)

-- the same for the groups that g owns; others pass
abbrev pub own_fits : ℕ → List Entry → List Entry → ℕ → ℕ → ℕ → ℕ → Bool
own_fits left s d e g l k = not (eqb (owner_of s k) g) || group_fits left s d e l k
