-- What a place of a normal form says.
-- Assumes nothing.
use Rattle.logic.specs.Place.{Place}
use Rattle.meaning.specs.Description.{place_of}
use Rattle.narrowest.specs.code.Forms.{entries_in}
use Rattle.narrowest.specs.declared.place.PlaceIn.{PlaceIn}

-- as a tree
abbrev pub place_in : PlaceIn → Place
place_in p = place_of (entries_in p.form.rows.now) p.owner
