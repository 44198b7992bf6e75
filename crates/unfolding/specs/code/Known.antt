-- What is known of a dictionary that is read: what is kept of each description, of which 64 have a place.
-- Assumes nothing.
use Rattle.std.specs.Prelude.{◌+◌, ◌<◌, ◌≤◌, suc, ℕ, get_or, length, List, [], ◌∷◌, ◌≡◌, Result, Ok, Err}
use Rattle.blocks.proofs.RoundTrip.Unbroken.{Unbroken}
use Rattle.blocks.specs.Entries.{entries_of}
use Rattle.blocks.specs.Frame.{plain}
use Rattle.blocks.specs.declared.Entry.{Entry}
use Rattle.blocks.specs.declared.Refusal.{Refusal}
use Rattle.blocks.specs.declared.Schema.TheVariants.{Named}
use Rattle.lists.specs.Parts.{parts_of, start_of}
use Rattle.names.specs.Measures.{levels_named, levels_nth, size_named, size_nth}
use Rattle.names.specs.NamedReading.{dictionary_of, named_reading}
use Rattle.names.specs.Promise.{Each, EachAfter, LegalNamed, Within}
use Rattle.unfolding.specs.declared.tables.Described.{Described}
use Rattle.unfolding.specs.declared.Measured.{Measured}
use Rattle.unfolding.specs.declared.tables.Tables.{Tables}
use Rattle.std.proofs.Props.{props}

-- ---- what is kept of a name

-- nothing
abbrev pub blank : Described
blank = record { start = 0; size = 0; levels = 0 }

abbrev pub start_in : List Described → ℕ → ℕ
start_in of n = (get_or of n blank).start

abbrev pub size_in : List Described → ℕ → ℕ
size_in of n = (get_or of n blank).size

abbrev pub levels_in : List Described → ℕ → ℕ
levels_in of n = (get_or of n blank).levels

-- ---- what is known

-- at most 64 descriptions, all legal, of which 14 applies to none, and their sizes are kept
pub record Sized (K : List (List Entry)) (of : List Described) : Type 0 where
  pub few : length K ≤ 64
  pub each : Each LegalNamed K
  pub within : (n : ℕ) → Within (size_nth K n) (levels_nth K n)
  pub sizes : (n : ℕ) → n ≤ 64 → size_in of n ≡ size_nth K n

-- and so are their levels, and how many they are
pub record Known (K : List (List Entry)) (t : Tables) : Type 0 where
  pub sized : Sized K t.of
  pub deep : (n : ℕ) → n ≤ 64 → levels_in t.of n ≡ levels_nth K n
  pub many : t.count ≡ length K

-- of the bytes of a dictionary: where each description begins is kept too; none of 1 to 3 applies to one, so that its entries can be gone over
pub record Ready (D : List ℕ) (t : Tables) : Type 0 where
  pub known : Known (dictionary_of D) t
  pub starts : (k : ℕ) → k < length (parts_of D) → start_in t.of (k + 1) ≡ start_of k D
  pub sound : (k : ℕ) → k < length (parts_of D) → Unbroken plain (Named k) (get_or (parts_of D) k [])

-- a fact that is known has one proof, as is asked of what goes with a value
each-prop : (k : ℕ) (K : List (List Entry)) → IsProp (EachAfter LegalNamed k K)
each-prop k [] = Prim.hlevel props
each-prop k (d ∷ K) = Prim.hlevel (props, each-prop (suc k) K)

pub Ready-prop : (D : List ℕ) (t : Tables) → IsProp (Ready D t)
Ready-prop D t = Prim.hlevel (props, each-prop)

-- what reading a description answers: a refusal, or its entries, its size and its levels
abbrev pub MeasuredBy : List (List Entry) → ℕ → List ℕ → Result Measured Refusal → Type 0
MeasuredBy K i s (Err e) = named_reading K i s ≡ Err e
MeasuredBy K i s (Ok m) =
    (named_reading K i s ≡ Ok m.total) × (m.total ≡ length (entries_of s)) × (m.total ≤ 1008) × (m.size ≡ size_named K (entries_of s)) × (m.levels ≡ levels_named K (entries_of s))
    × LegalNamed (length K) (entries_of s) × Unbroken plain (Named (length K)) s
