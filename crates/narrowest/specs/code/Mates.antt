-- For each 'every' entry of the first normal form, the second's at the same path, and where the two places together say something.
-- Assumes nothing.
use Rattle.std.specs.Prelude.{◌%◌, ◌/◌, ◌<◌, ◌≤◌, ℕ, eqb, get_or, length, Bool, ◌&&◌, ◌||◌, cond, false, not, true, List, [], ◌∷◌, ◌≡◌, ◌≢◌}
use Rattle.std.specs.List.{flat_map}
use Rattle.blocks.specs.Entries.{nth}
use Rattle.blocks.specs.Words.{word_at}
use Rattle.blocks.specs.declared.Entry.{Entry}
use Rattle.logic.specs.Canonical.{Canonical}
use Rattle.logic.specs.Normal.{is_end}
use Rattle.logic.specs.Place.{Kind, Place, has, least, most}
use Rattle.meaning.specs.Description.{place_of}
use Rattle.meaning.specs.Lookup.{entry_for}
use Rattle.narrow.specs.Join.{joined_place}
use Rattle.narrow_listed.specs.Listed.{names_in}
use Rattle.narrowest.specs.code.Codes.{links_of}
use Rattle.narrowest.specs.code.Forms.{entries_in, owned_by}
use Rattle.narrowest.specs.code.Lacks.{lacks_of}
use Rattle.narrowest.specs.code.Pushes.{shared}
use Rattle.pairs.specs.Pairs.{under}
use Rattle.pairs.specs.Promise.{ListRead}

-- the list is accepted, and the two places at the top are normal ones that something fits
pub record Joinable (P a b : List ℕ) : Type 0 where
  pub list : ListRead P
  pub words : (i : ℕ) → word_at P i < 65536
  pub first : Canonical (under P) (place_of (entries_in a) 0)
  pub second : Canonical (under P) (place_of (entries_in b) 0)

module _ (one two : List Entry) where
  -- the second's 'every' at the path of entry m, where m is one and its owner has such a mate, or is the top; else 0
  abbrev pub mate_at : List ℕ → ℕ → ℕ
  mate_at M m =
      cond (eqb (nth one m).kind 5 && (eqb (nth one m).owner 0 || not (eqb (get_or M (nth one m).owner 0) 0)))
      (entry_for two (get_or M (nth one m).owner 0) 5 (nth one m).name) 0

  -- the first n entries have theirs
  pub record Mated (n : ℕ) (M : List ℕ) : Type 0 where
    pub top : get_or M 0 0 ≡ 0
    pub each : (m : ℕ) → 1 ≤ m → m ≤ n → get_or M m 0 ≡ mate_at M m

-- there is some
abbrev pub some_of : {A : Type 0} → List A → Bool
some_of [] = false
some_of (x ∷ xs) = true

module _ (P : List ℕ) (one two : List Entry) where
  -- the place that is joined from place m of the first and place s of the second
  abbrev pub joint_place : ℕ → ℕ → Place
  joint_place m s = joined_place (under P) (names_in P) (place_of one m) (place_of two s)

  -- Of the entries after the first k, those stay whose joined place is not empty.
  pub record Settled (k : ℕ) (M F : List ℕ) : Type 0 where
    pub top : get_or F 0 0 ≡ 0
    pub before : (m : ℕ) → m ≤ k → get_or F m 0 ≡ get_or M m 0
    pub after : (m : ℕ) → k < m → m ≤ length one → get_or F m 0 ≡ cond (is_end (joint_place m (get_or M m 0))) 0 (get_or M m 0)

  -- two places that are written together, or one that stands whole
  pub record Good (M : List ℕ) (o s : ℕ) : Type 0 where
    pub low : o ≤ length one
    pub low-second : s ≤ length two
    pub first : Canonical (under P) (place_of one o)
    pub second : Canonical (under P) (place_of two s)
    pub mate : o ≢ 0 → s ≢ 0 → get_or M o 0 ≡ s

  abbrev pub GoodCode : List ℕ → ℕ → Type 0
  GoodCode M c = Good M (c / 1024) (c % 1024)

-- The two forms can be joined, and of the mates those are left whose places together say something.
pub record Walkable (P a b F : List ℕ) : Type 0 where
  pub joinable : Joinable P a b
  pub mates : List ℕ
  pub mated : Mated (entries_in a) (entries_in b) (length (entries_in a)) mates
  pub settled : Settled P (entries_in a) (entries_in b) 0 mates F

-- ---- whether two joined places say something: an atom of a kind, a lack, or an 'every', along the entries of the first

abbrev pub says_kind : Kind → Place → List Entry → Bool
says_kind k u es = some_of (flat_map (shared k u) es)

abbrev pub says_lack : List ℕ → Place → Place → List Entry → Bool
says_lack P t u es = some_of (flat_map (lacks_of P t u) es)

abbrev pub says_link : List Entry → List Entry → List ℕ → ℕ → ℕ → List Entry → Bool
says_link one two F o s es = some_of (flat_map (links_of one two F o s) es)

unfoldable pub says_along : List ℕ → List Entry → List Entry → List ℕ → ℕ → ℕ → List Entry → Bool
says_along P one two F o s es =
    says_kind has (place_of two s) es
    || (says_kind least (place_of two s) es
    || (says_kind most (place_of two s) es || (says_lack P (place_of one o) (place_of two s) es || says_link one two F o s es)))

abbrev pub says_any : List ℕ → List Entry → List Entry → List ℕ → ℕ → ℕ → Bool
says_any P one two F o s = says_along P one two F o s (owned_by o one)
