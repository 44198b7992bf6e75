-- What judging a list of descriptions by the slots of one is told, and what each step of it does.
-- Assumes nothing.
use Rattle.std.specs.Prelude.{ℕ, eqb, length, Bool, List, [], ◌≡◌, Ok, Err, Option, Some, None, Result}
use Rattle.base.specs.Stores.{stored}
use Rattle.blocks.specs.Reading.{reading_of, Reading}
use Rattle.blocks.specs.Refusals.{unless_refused}
use Rattle.blocks.specs.declared.Refusal.{Refusal}
use Rattle.blocks.specs.declared.Schema.TheVariants.{Named}
use Rattle.lists.specs.Parts.{parts_of}
use Rattle.names.specs.NamedReading.{dictionary_of, named_unfolding, sent_of, unfolding_of}
use Rattle.pairs.specs.Pairs.{under}
use Rattle.slots.specs.Catalogue.{bits_before, listed_bits, listed_reading, services_reading}
use Rattle.slots.specs.Holding.{failing_in}
use Rattle.unfolding.specs.declared.dictionary.Dictionary.{Dictionary}

-- the bytes of a dictionary that is read; none where none is
abbrev pub bytes_read : Option Dictionary → List ℕ
bytes_read None = []
bytes_read (Some d) = d.bytes.now

-- whether one service is contained, or why it is refused
abbrev pub Judgement : Type 0
Judgement = Result Bool Refusal

-- what judging one service with no names answers, as input i: whether it is contained, unless it is refused
abbrev pub unless_told : Reading → Bool → Judgement
unless_told r x = unless_refused Err r (Ok x)

unfoldable pub plain_judged : List ℕ → List ℕ → ℕ → List ℕ → Judgement
plain_judged P s i d = unless_told (reading_of (Named 0) i d) (eqb (failing_in (under P) s d) 0)

-- what judging one service answers, as input i, by the bytes that a call goes on with for the supplier: its byte is that of this answer
unfoldable pub service_judged : List ℕ → List ℕ → List ℕ → ℕ → List ℕ → Judgement
service_judged P D s i d = unless_refused Err (named_unfolding (dictionary_of D) i d) (Ok (eqb (failing_in (under P) s (sent_of D d)) 0))

-- what judging all of a list does with a table, where the list is cut into at most 64
abbrev pub JudgesAll : List ℕ → List ℕ → List ℕ → List ℕ → List ℕ → Reading → List ℕ → Type 0
JudgesAll P D s list old r new =
    (r ≡ unless_refused Err (services_reading (dictionary_of D) 2 (parts_of list)) (Ok (length (parts_of list))))
    × (new ≡ stored old 0 (bits_before P D s 2 (parts_of list)))

-- and where it is any
abbrev pub JudgesListed : List ℕ → List ℕ → List ℕ → List ℕ → List ℕ → Reading → List ℕ → Type 0
JudgesListed P D s list old r new = (r ≡ listed_reading D list) × (new ≡ stored old 0 (listed_bits P D s list))

-- and after the supplier
abbrev pub JudgesSupplied : List ℕ → List ℕ → List ℕ → List ℕ → List ℕ → Reading → List ℕ → Type 0
JudgesSupplied P D c list old r new =
    (r ≡ unless_refused Err (unfolding_of D 1 c) (listed_reading D list))
    × (new ≡ stored old 0 (unless_refused (λ e. []) (unfolding_of D 1 c) (listed_bits P D (sent_of D c) list)))
