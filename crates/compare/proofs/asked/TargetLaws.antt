-- What the target of a number asks for, on the path and at its end.
-- Assumes nothing.
use Prim.Native.Nat.{◌*◌, ◌+◌, ◌-◌, ◌<◌, ◌≤◌, suc, zero, ℕ}
use lib.Dec.{eqb}
use lib.ListN.{drop, get_or}
use mathlib.Core.Bool.{cond}
use mathlib.Core.List.{List, [], ◌∷◌}
use mathlib.Core.Logic.{◌≢◌}
use mathlib.Core.Path.{◌≡◌, ap, refl}
use native.Mathlib.Nat.{suc-add, zero-add}
use native.Mathlib.Numerals.{add-one}
use native.Mathlib.Omega.{arith}
use Rattle.base.proofs.Tests.{bool_cases, eq-cases, ge-ltb, lt-ltb, ne_eqb}
use Rattle.blocks.specs.declared.Entry.{Entry}
use Rattle.compare.proofs.path.PathLaws.{length_up, up_at}
use Rattle.compare.specs.code.Asked.{One, code_asked, least_asked, link_in}
use Rattle.compare.specs.code.Codes.{target_at, target_below, up_from}
use Rattle.compare.specs.declared.items.Items.{Items}
use Rattle.std.specs.Prelude.{None, Option, Some}
use Rattle.logic.specs.Place.{Atom, atom, kind_of, lacks, most}
use Rattle.logic.specs.Witness.{links_at, on, properties_at, target_links, target_properties, want, want_at}
use Rattle.meaning.specs.Description.{atom_of}

-- ---- the target of a number

-- the path without its first i links
drop-up : (links : List ℕ) (i j : ℕ) → drop i (up_from links (i + j)) ≡ up_from links j
unfolding up_from
drop-up links zero j = rw zero-add
drop-up links (suc i) j = rw (suc-add, up_from) (drop-up links i j)

-- at the end of the path
target-end : (links : List ℕ) (a : Atom) {target m : ℕ} → m < target → target ≤ m + 1 → target_at (up_from links m) a target ≡ on [] a
unfolding target_at up_from
target-end links a {target} {m} lo hi =
    let s : target ≡ suc m = omega arith in
    let z : m + 0 ≡ m = omega arith in
    rw (s, target_at) (ap (λ (w : List ℕ). on w a) (rw z at (drop-up links m 0)))

-- before its end
target-before : (links : List ℕ) (a : Atom) {target m : ℕ} → target ≢ 0 → target ≤ m
    → target_at (up_from links m) a target ≡ on (get_or links (m - target) 0 ∷ up_from links (m - target)) a
unfolding target_at up_from
target-before links a {target = zero} {m} z h = absurd (z refl)
target-before links a {target = suc i} {m} z h =
    let s : i + suc (m - suc i) ≡ m = omega arith in
    ap (λ (w : List ℕ). on w a) (rw s at (drop-up links i (suc (m - suc i))))

-- ---- what the entry at its end asks for

-- by their kind numbers
kind-lacks : {k : ℕ} → k ≡ 2 → kind_of k ≡ lacks
unfolding kind_of
kind-lacks e = rw e

kind-most : {k : ℕ} → k ≡ 4 → kind_of k ≡ most
unfolding kind_of
kind-most e = rw e

-- a 'lacks' alone asks for a property
no-property : (k n x : ℕ) → k ≢ 2 → properties_at (atom (kind_of k) n x) ≡ []
unfolding kind_of
no-property k n x z =
    bool_cases (eqb k 1)
    (λ p. rw p)
    (λ p. rw (p, ne_eqb z) (bool_cases (eqb k 3) (λ q. rw q) (λ q. rw q (bool_cases (eqb k 4) (λ r. rw r) (λ r. rw r)))))

-- a 'most' alone asks for a link's items
no-link : (k n x : ℕ) → k ≢ 4 → links_at (atom (kind_of k) n x) ≡ []
unfolding kind_of
no-link k n x z =
    bool_cases (eqb k 1)
    (λ p. rw p)
    (λ p. rw p (bool_cases (eqb k 2) (λ q. rw q) (λ q. rw (q, ne_eqb z) (bool_cases (eqb k 3) (λ r. rw r) (λ r. rw r)))))

-- nor items of any link
no-want : (k n x l : ℕ) → k ≢ 4 → want_at (atom (kind_of k) n x) l ≡ 0
unfolding kind_of
no-want k n x l z =
    bool_cases (eqb k 1)
    (λ p. rw p)
    (λ p. rw p (bool_cases (eqb k 2) (λ q. rw q) (λ q. rw (q, ne_eqb z) (bool_cases (eqb k 3) (λ r. rw r) (λ r. rw r)))))

-- ---- the property that is asked for

-- none before the end of the path
pub property-before : (links : List ℕ) (a : Atom) {target m : ℕ} → target ≤ m → target_properties (target_at (up_from links m) a target) ≡ []
unfolding target_at
property-before links a {target} h = eq-cases target 0 (λ e. rw (e, target_at)) (λ e. rw (target-before links a e h))

-- none at its end, if the entry is no 'lacks'
pub property-none : (links : List ℕ) (e : Entry) {target m : ℕ} → m < target → target ≤ m + 1 → e.kind ≢ 2 → target_properties (target_at (up_from links m) (atom_of e) target) ≡ []
property-none links e lo hi z = rw (target-end links (atom_of e) lo hi) (no-property e.kind e.name e.number z)

-- that of a 'lacks'
pub property-lacked : (links : List ℕ) (e : Entry) {target m r : ℕ} → m < target → target ≤ m + 1 → e.kind ≡ 2 → r ≡ e.name
    → target_properties (target_at (up_from links m) (atom_of e) target) ≡ r ∷ []
property-lacked links e lo hi k n = rw (target-end links (atom_of e) lo hi, kind-lacks k, n)

-- ---- the items that are asked for

-- what is asked of the links of a target, as the code has it
abbrev pub Asks : List ℕ → ℕ → Atom → ℕ → Option Items → Type 0
Asks links m a target r =
    One (link_in r) × (target_links (target_at (up_from links m) a target) ≡ link_in r) × ((x : ℕ) → want (target_at (up_from links m) a target) x ≡ least_asked r x)
    × ((x : ℕ) → 1024 * target_below (up_from links m) target x ≡ code_asked r x)

-- nothing past the end of the path
below_end : (links : List ℕ) (l : ℕ) {target m : ℕ} → m < target → target_below (up_from links m) target l ≡ 0
unfolding target_below
below_end links l {target = zero} {m} h = refl
below_end links l {target = suc i} {m} h = rw (length_up, ge-ltb {m = i} {n = m} (omega arith))

-- on the path the target of the next link is one link further down
below_next : (links : List ℕ) (x : ℕ) {target m : ℕ} → target ≢ 0 → target ≤ m
    → target_below (up_from links m) target x ≡ cond (eqb x (get_or links (m - target) 0)) (target + 1) 0
unfolding target_below
below_next links x {target = zero} {m} z h = absurd (z refl)
below_next links x {target = suc i} {m} z h =
    let b : i < m = omega arith in
    rw (length_up, lt-ltb b, up_at links i m b) (bool_cases (eqb x (get_or links (m - suc i) 0)) (λ q. rw q (omega arith)) (λ q. rw q))

-- where nothing is asked
pub nothing-asked : (links : List ℕ) (m : ℕ) (a : Atom) {target : ℕ} → target ≡ 0 → Asks links m a target None
unfolding target_at target_below
nothing-asked links m a e = rw (e, target_at) (tt, refl, λ x. refl, λ x. refl)

-- on the path an item by the next link
pub next-asked : (links : List ℕ) (a : Atom) (i : Items) {target m : ℕ} → target ≢ 0 → target ≤ m → i.link.0 ≡ get_or links (m - target) 0 → i.link.0 < 65536
    → i.count ≡ 1 → i.code ≡ 1024 * (target + 1) → Asks links m a target (Some i)
next-asked links a i {target} {m} z h e small one q = (
  small,
  rw (target-before links a z h, e),
  λ x. rw (target-before links a z h, e, one),
  λ x. rw (below_next links x z h, e, q) (bool_cases (eqb x (get_or links (m - target) 0)) (λ y. rw y) (λ y. rw y)),
)

-- at its end nothing, if the entry is no 'most'
pub nothing-other : (links : List ℕ) (e : Entry) {target m : ℕ} → m < target → target ≤ m + 1 → e.kind ≢ 4 → Asks links m (atom_of e) target None
nothing-other links e lo hi z = (
  tt,
  rw (target-end links (atom_of e) lo hi) (no-link e.kind e.name e.number z),
  λ x. rw (target-end links (atom_of e) lo hi) (no-want e.kind e.name e.number x z),
  λ x. rw (below_end links x lo),
)

-- and one more than a 'most' allows
pub most-asked : (links : List ℕ) (e : Entry) (i : Items) {target m : ℕ} → m < target → target ≤ m + 1 → e.kind ≡ 4 → i.link.0 ≡ e.name → i.link.0 < 65536
    → i.count ≡ e.number + 1 → i.code ≡ 0 → Asks links m (atom_of e) target (Some i)
most-asked links e i lo hi k name small number none = (
  small,
  rw (target-end links (atom_of e) lo hi, kind-most k, name),
  λ x. rw (target-end links (atom_of e) lo hi, kind-most k, name, number, add-one),
  λ x. rw (below_end links x lo, none) (bool_cases (eqb x i.link.0) (λ y. rw y) (λ y. rw y)),
)

-- ---- how much is asked for: what two contracts said before the fields `few` and `near` of Items

pub least-few : (r : Option Items) (x : ℕ) → least_asked r x ≤ 65536
least-few None x = omega arith
least-few (Some i) x = bool_cases (eqb x i.link.0) (λ y. rw y i.few) (λ y. rw y (omega arith))

pub code-near : (r : Option Items) (x : ℕ) → code_asked r x ≤ 33792
code-near None x = omega arith
code-near (Some i) x = bool_cases (eqb x i.link.0) (λ y. rw y i.near) (λ y. rw y (omega arith))
