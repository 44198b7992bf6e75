-- Number 9 by examples: what breaks it, what does not, and its place in the order.
-- Assumes nothing.
use Rattle.std.proofs.Common.{◌≡◌, List, [], ◌∷◌, length, refl}
use Rattle.base.specs.Range.{sum}
use Rattle.blocks.specs.Entries.{entry, form_ok, name_ok, nth, number_ok}
use Rattle.blocks.specs.Faults.{Finding, Clean, Faulty, entry_faults, first, rows_from}
use Rattle.blocks.specs.Owners.{chain, depth_of, depth_ok, owner_of, owner_ok}
use Rattle.blocks.specs.Single.{items_up_to, single_ok}
use Rattle.blocks.specs.declared.Cause.TheVariants.{Double, Owner}
use Rattle.blocks.specs.declared.Entry.{Entry}
use Rattle.blocks.specs.declared.Schema.TheVariants.{Specimen}

-- the first fault of a specimen's entries
abbrev found : List Entry → Finding
found es = first (entry_faults Specimen es 1 (length es))

pub examples :  -- a group of one item by the first such link, of two by it, and of two by the last link that is none
    (found (entry 7 0 32768 0 ∷ []) ≡ Clean)
    × (found (entry 7 0 32768 1 ∷ []) ≡ Faulty Double 1)
    × (found (entry 7 0 32767 1 ∷ []) ≡ Clean)
    -- two groups of one owner and link; the same link for another owner, another link for the same owner
    × (found (entry 7 0 40000 0 ∷ entry 1 0 40000 0 ∷ entry 7 0 40000 0 ∷ []) ≡ Faulty Double 3)
    × (found (entry 7 0 40000 0 ∷ entry 7 1 40000 0 ∷ entry 7 0 40001 0 ∷ []) ≡ Clean)
    -- at one entry 5 comes first; 9 of an entry comes before 4 of a later one
    × (found (entry 7 1 40000 1 ∷ []) ≡ Faulty Owner 1)
    × (found (entry 7 0 40000 1 ∷ entry 2 0 1 0 ∷ []) ≡ Faulty Double 1)
unfolding first entry_faults rows_from form_ok name_ok number_ok owner_ok owner_of nth depth_ok depth_of chain single_ok items_up_to sum
examples = (refl, refl, refl, refl, refl, refl, refl)
