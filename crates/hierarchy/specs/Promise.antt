-- What the promises of ranking a list of services speak of: its bytes, and what they say of the services.
-- Assumes nothing.
use Rattle.std.specs.Prelude.{◌≡◌, ℕ, ◌+◌, ◌*◌, ◌<◌, ◌≤◌, drop, get_or, length, true, List, [], ◌↔◌}
use Rattle.base.specs.Range.{bit}
use Rattle.blocks.specs.Entries.{entries_of}
use Rattle.hierarchy.specs.Answer.{contains, hierarchy_size, ranked_of}
use Rattle.lists.specs.Parts.{parts_of}
use Rattle.meaning.specs.Description.{place_of}
use Rattle.meaning.specs.Hierarchy.{Leads, alike, class_of, direct, strict}
use Rattle.meaning.specs.Promise.{Subsumed}
use Rattle.pairs.specs.Pairs.{under}

-- how many services a list has, and one of them by its position, counted from 0
abbrev pub services_in : List ℕ → ℕ
services_in list = length (parts_of list)

abbrev pub service_in : List ℕ → ℕ → List ℕ
service_in list i = get_or (parts_of list) i []

-- every item that fits c fits d, in every finite record that keeps the pairs and the rule on links to one item
abbrev pub ContainedUnder : List ℕ → List ℕ → List ℕ → Type 0
ContainedUnder P c d = Subsumed (under P) (place_of (entries_of c) 0) (place_of (entries_of d) 0)

-- byte j of row i of the table, of the direct superiors, and the class of service i
abbrev pub table_byte : List ℕ → List ℕ → List ℕ → ℕ → ℕ → ℕ
table_byte P list out i j = get_or (ranked_of P list out) (services_in list * i + j) 0

abbrev pub superior_byte : List ℕ → List ℕ → List ℕ → ℕ → ℕ → ℕ
superior_byte P list out i j = get_or (ranked_of P list out) (services_in list * services_in list + (services_in list * i + j)) 0

abbrev pub class_byte : List ℕ → List ℕ → List ℕ → ℕ → ℕ
class_byte P list out i = get_or (ranked_of P list out) (2 * (services_in list * services_in list) + i) 0

-- What the answer that m bytes are written says of the output.
pub record RanksServices (P list out : List ℕ) (m : ℕ) : Type 0 where
  -- 1 to 64 services, and their bytes fit the output; later ones are unchanged
  pub some : 1 ≤ services_in list
  pub few : services_in list ≤ 64
  pub size : m ≡ hierarchy_size (services_in list)
  pub room : m ≤ length out
  pub later : drop m (ranked_of P list out) ≡ drop m out
  -- [H2] a byte of the table is 1 exactly where in every record each item that fits service i fits service j, and
  -- else 0
  pub cell : (i j : ℕ) → i < services_in list → j < services_in list → table_byte P list out i j ≡ bit (contains P list i j)
  pub means : (i j : ℕ) → i < services_in list → j < services_in list → (contains P list i j ≡ true) ↔ ContainedUnder P (service_in list i) (service_in list j)
  -- a byte of the superiors is 1 exactly for those that strictly contain service i with no third strictly between
  pub superior : (i j : ℕ) → i < services_in list → j < services_in list → superior_byte P list out i j ≡ bit (direct (contains P list) (services_in list) i j)
  -- following them reaches every strict container, and nothing else
  pub reaches : (i j : ℕ) → i < services_in list → j < services_in list → strict (contains P list) i j ≡ true → Leads (contains P list) (services_in list) i j
  pub only : (i j : ℕ) → i < services_in list → j < services_in list → Leads (contains P list) (services_in list) i j → strict (contains P list) i j ≡ true
  -- a class is the lowest position, from 1, of those that contain service i and are contained in it; it is equal exactly for these
  pub class : (i : ℕ) → i < services_in list → class_byte P list out i ≡ class_of (contains P list) (services_in list) i
  pub alike-only : (i j : ℕ) → i < services_in list → j < services_in list
      → (class_byte P list out i ≡ class_byte P list out j) ↔ (alike (contains P list) i j ≡ true)
