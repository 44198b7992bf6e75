-- What places mean, in the records that keep a background.
-- Assumes nothing.
use Rattle.std.specs.Prelude.{◌<◌, ℕ, true, List, ◌≡◌}
use Rattle.logic.specs.Background.{Background, Keeps}
use Rattle.logic.specs.Place.{Atom, Place}
use Rattle.logic.specs.Record.{Record, along, fits, meets}

-- the same items fit both places
abbrev pub Equivalent : Background → Place → Place → Type 0
Equivalent b t u = (c : Record) → Keeps b c → (x : ℕ) → x < c.size → fits c t x ≡ fits c u x

-- the items that the links w lead to, from an item that fits the place, meet the atom
abbrev pub Entails : Background → Place → List ℕ → Atom → Type 0
Entails b t w a = (c : Record) → Keeps b c → (x : ℕ) → x < c.size → fits c t x ≡ true → along c w x (meets c a) ≡ true
