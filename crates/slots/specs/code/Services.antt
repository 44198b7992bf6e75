-- What is known of the services of a list that are read, and what each step of judging them does to a table.
-- Assumes nothing.
use Rattle.std.specs.Prelude.{◌<◌, ◌≤◌, ℕ, get_or, length, List, [], ◌≡◌, Ok}
use Rattle.blocks.specs.Reading.{reading_of}
use Rattle.blocks.specs.declared.Schema.TheVariants.{Description}
use Rattle.lists.specs.Parts.{parts_of, start_of}
use Rattle.slots.specs.declared.containment.Service.{Service}

-- what stands for no service
abbrev pub no_service : Service
no_service = record { start = 0; total = 0 }

-- n services are all of the list; of each it is known where it begins and how many entries it has, as any input
pub record ServicesRead (list : List ℕ) (of : List Service) (n : ℕ) : Type 0 where
  pub all : n ≡ length (parts_of list)
  pub few : n ≤ 64
  pub starts : (i : ℕ) → i < n → (get_or of i no_service).start ≡ start_of i list
  pub totals : (i : ℕ) → i < n → reading_of Description 2 (get_or (parts_of list) i []) ≡ Ok (get_or of i no_service).total
