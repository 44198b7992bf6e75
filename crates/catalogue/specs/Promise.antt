-- What the promises of the call on a catalogue speak of: a service of the list, and its byte.
-- Assumes nothing.
use Rattle.std.specs.Prelude.{ℕ, get_or, List, []}
use Rattle.catalogue.specs.Answer.{filled_of}
use Rattle.lists.specs.Parts.{parts_of}

-- a service of the list by its position, counted from 0
abbrev pub service_at : List ℕ → ℕ → List ℕ
service_at list i = get_or (parts_of list) i []

-- its byte
abbrev pub byte_at : List ℕ → List ℕ → List ℕ → List ℕ → List ℕ → ℕ → ℕ
byte_at P D c list out i = get_or (filled_of P D c list out) i 0
