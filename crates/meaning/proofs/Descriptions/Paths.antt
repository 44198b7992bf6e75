-- The meaning of a description by paths: an item fits it if each entry that is no 'every' is met by all items that its owners'
-- links reach.
-- Assumes nothing.
use Prim.Native.Nat.{◌+◌, ◌≤◌, suc, zero, ℕ}
use lib.Dec.{eqb}
use lib.ListN.{length}
use mathlib.Core.Bool.{Bool, false, true}
use mathlib.Core.List.{List, [], ◌∷◌}
use mathlib.Core.Logic.{◌≢◌, ◌↔◌}
use mathlib.Core.Path.{◌∙◌, ◌≡◌, ap, fun_ext, refl, sym}
use native.Mathlib.Omega.{arith}
use Rattle.base.proofs.Tests.{eq-cases, eq-eqb, ne_eqb, tests}
use Rattle.blocks.proofs.Refusing.Legal.{owner-earlier, owner-kind}
use Rattle.blocks.specs.Entries.{nth}
use Rattle.blocks.specs.Owners.{owner_of}
use Rattle.blocks.specs.Promise.{Legal}
use Rattle.blocks.specs.declared.Entry.{Entry}
use Rattle.blocks.specs.declared.Schema.TheVariants.{Description}
use Rattle.logic.proofs.Records.Along.{along-append, along-follows}
use Rattle.logic.specs.Place.{Place}
use Rattle.logic.specs.Record.{Record, along, each_linked, fits, meets}
use Rattle.logic.specs.Tree.{end, leaf, node}
use Rattle.meaning.proofs.Descriptions.Links.{links-into, links_into}
use Rattle.meaning.proofs.Descriptions.OwnedLaws.{owned_at, owned-of}
use Rattle.meaning.proofs.Descriptions.Places.{all_here, asks, place-owned}
use Rattle.meaning.specs.Description.{atom_of, links_to, place_of}
use Rattle.meaning.specs.Owned.{all_owned}

-- ---- entries and places

-- a place by the entries there
here-items : (c : Record) (t : Place) (x : ℕ) → fits c t x ≡ all_here (λ a. meets c a x) (λ l u. each_linked c l x (fits c u)) t
unfolding fits all_here
here-items c end x = refl
here-items c (leaf a r) x = rw (here-items c r x)
here-items c (node l t r) x = rw (here-items c r x)

module _ (c : Record) (d : List Entry) (L : Legal Description d) (x : ℕ) where
  -- what entry n asks of item y
  abbrev pub asked : ℕ → ℕ → Bool
  asked n y = asks (λ a. meets c a y) (λ l u. each_linked c l y (fits c u)) d n (nth d n)

  -- entry n is met by all items that the links to it reach
  abbrev Met : ℕ → Type 0
  Met n = along c (links_to d n) x (asked n) ≡ true

  -- the place that o owns is fitted by all items that the links into it reach
  abbrev Fitted : ℕ → Type 0
  Fitted o = along c (links_into d o) x (fits c (place_of d o)) ≡ true

  -- an item fits a place if it meets the entries there
  fits-asked : (o y : ℕ) → fits c (place_of d o) y ≡ all_owned (λ n. asked n y) d o (length d)
  fits-asked o y = here-items c (place_of d o) y ∙ place-owned d L (λ a. meets c a y) (λ l u. each_linked c l y (fits c u)) o

  -- [F5] an item fits a place where it meets each entry of it, and only then
  pub place-met : (o y : ℕ) → (fits c (place_of d o) y ≡ true) ↔ ((n : ℕ) → 1 ≤ n → n ≤ length d → owner_of d n ≡ o → asked n y ≡ true)
  place-met o y =
      (λ h n lo hi q. owned_at (λ m. asked m y) d o (length d) (sym (fits-asked o y) ∙ h) n lo hi q, λ f. fits-asked o y ∙ owned-of (λ m. asked m y) d o (length d) f)

  -- the entries of a place that is fitted are met
  fitted-met : (n : ℕ) → 1 ≤ n → n ≤ length d → Fitted (owner_of d n) → Met n
  fitted-met n lo hi h =
      rw (links-into d (owner-earlier L) n lo hi)
      (along-follows c {I = Unit {0}} (λ i. fits c (place_of d (owner_of d n))) (asked n)
      (λ y f. owned_at (λ m. asked m y) d (owner_of d n) (length d) (sym (fits-asked (owner_of d n) y) ∙ f tt) n lo hi refl)
      (links_into d (owner_of d n)) x (λ i. h))

  -- a place whose entries are met is fitted
  met-fitted : (o : ℕ) → ((n : ℕ) → 1 ≤ n → n ≤ length d → owner_of d n ≡ o → Met n) → Fitted o
  met-fitted o h =
      along-follows c {I = (n : ℕ) × (1 ≤ n) × (n ≤ length d) × (owner_of d n ≡ o)} (λ i. asked i.0) (fits c (place_of d o))
      (λ y f. fits-asked o y ∙ owned-of (λ m. asked m y) d o (length d) (λ n lo hi q. f (n, lo, hi, q)))
      (links_into d o) x
      (λ i. let e : links_to d i.0 ≡ links_into d o = links-into d (owner-earlier L) i.0 i.1 i.2 ∙ ap (links_into d) i.3 in
      rw e at (h i.0 i.1 i.2 i.3))

  -- an 'every' is met if the place that it owns is fitted
  every-met : (n : ℕ) → 1 ≤ n → (nth d n).kind ≡ 5 → along c (links_to d n) x (asked n) ≡ along c (links_into d n) x (fits c (place_of d n))
  unfolding links_into along
  every-met n lo k =
      let z : eqb n 0 ≡ false = omega tests in
      let into : (y : ℕ) → asked n y ≡ along c ((nth d n).name ∷ []) y (fits c (place_of d n)) = λ y. rw (eq-eqb k) in
      rw z (ap (along c (links_to d n) x) (fun_ext into) ∙ sym (along-append c (links_to d n) ((nth d n).name ∷ []) x (fits c (place_of d n))))

  -- another entry is met if its atom is
  atom-met : (n : ℕ) → (nth d n).kind ≢ 5 → along c (links_to d n) x (asked n) ≡ along c (links_to d n) x (meets c (atom_of (nth d n)))
  atom-met n z = ap (along c (links_to d n) x) (fun_ext (λ y. rw (ne_eqb z)))

  -- ---- the theorem

  -- all entries of a description that is fitted are met
  all-met : Fitted 0 → (bound n : ℕ) → n ≤ bound → 1 ≤ n → n ≤ length d → Met n
  all-met h zero n b lo hi = absurd (omega arith)
  all-met h (suc bound) n b lo hi =
      let o = owner-earlier L n lo hi in
      fitted-met n lo hi
      (eq-cases (owner_of d n) 0
      (λ z. rw z h)
      (λ z. sym (every-met (owner_of d n) (omega arith) (owner-kind L n lo hi z)) ∙ all-met h bound (owner_of d n) (omega arith) (omega arith) (omega arith)))

  -- places near the end first: a place is fitted if the atoms below it are met
  all-fitted : ((n : ℕ) → 1 ≤ n → n ≤ length d → (nth d n).kind ≢ 5 → Met n) → (left o : ℕ) → length d ≤ o + left → Fitted o
  all-fitted h zero o b = met-fitted o (λ n lo hi q. absurd (omega (arith, owner-earlier L n lo hi)))
  all-fitted h (suc left) o b =
      met-fitted o
      (λ n lo hi q. eq-cases (nth d n).kind 5
      (λ z. every-met n lo z ∙ all-fitted h left n (omega (arith, owner-earlier L n lo hi)))
      (λ z. h n lo hi z))

  -- an item that fits a description meets each atom along its path
  pub fits-paths : fits c (place_of d 0) x ≡ true → (n : ℕ) → 1 ≤ n → n ≤ length d → (nth d n).kind ≢ 5
      → along c (links_to d n) x (meets c (atom_of (nth d n))) ≡ true
  unfolding along links_into
  fits-paths h n lo hi z = sym (atom-met n z) ∙ all-met h n n (omega arith) lo hi

  -- an item that meets each atom along its path fits the description
  pub paths-fit : ((n : ℕ) → 1 ≤ n → n ≤ length d → (nth d n).kind ≢ 5 → along c (links_to d n) x (meets c (atom_of (nth d n))) ≡ true)
      → fits c (place_of d 0) x ≡ true
  unfolding along links_into
  paths-fit h = all-fitted (λ n lo hi z. atom-met n z ∙ h n lo hi z) (length d) 0 (omega arith)
