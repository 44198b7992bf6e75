-- The answer of the call on a catalogue, and the output that it leaves.
-- Assumes nothing.
use Rattle.std.specs.Prelude.{ℕ, ltb, drop, length, cond, List, ◌++◌, map, Ok, Err}
use Rattle.blocks.specs.Refusals.{refused, unless_refused}
use Rattle.blocks.specs.Reading.{Reading}
use Rattle.lists.specs.Parts.{parts_of}
use Rattle.names.specs.NamedReading.{sent_of}
use Rattle.slots.specs.Catalogue.{list_reading, service_bit}
use Rattle.blocks.specs.declared.Cause.TheVariants.{Room}

-- [L3] a byte for each service: 1 for contained, 0 for not
unfoldable pub answers_of : List ℕ → List ℕ → List ℕ → List ℕ → List ℕ
answers_of P D c list = map (service_bit P D (sent_of D c)) (parts_of list)

-- all refusals of the inputs, [L7] 7 last, for fewer bytes than services; else how many bytes are filled [L7]
unfoldable pub catalogue_of : List ℕ → List ℕ → List ℕ → List ℕ → List ℕ → Reading
catalogue_of P D c list out =
    unless_refused Err (list_reading P D c list)
    (cond (ltb (length out) (length (parts_of list))) (refused Room 0 0) (Ok (length (parts_of list))))

-- the output after each answer: a refusal leaves it, and else later bytes stay
abbrev pub filled_after : List ℕ → List ℕ → Reading → List ℕ
filled_after answers out (Ok n) = answers ++ drop n out
filled_after answers out (Err e) = out

unfoldable pub filled_of : List ℕ → List ℕ → List ℕ → List ℕ → List ℕ → List ℕ
filled_of P D c list out = filled_after (answers_of P D c list) out (catalogue_of P D c list out)
