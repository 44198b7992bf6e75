-- What the facts that say one thing tell of the record, and what the entries of a place that are gone over ask.
-- Assumes nothing.
use Rattle.std.proofs.Common.{◌≡◌, ℕ, zero, suc, ◌+◌, ◌-◌, ◌*◌, ◌/◌, ◌%◌, ◌<◌, ◌≤◌, Bool, true, false, cond, not, ◌&&◌, ◌||◌, eqb, leb, ◌≢◌, List, [], ◌∷◌, length, get_or, refl, sym, ap, ◌∙◌, arith}
use Rattle.std.specs.List.{list_any}
use Rattle.base.proofs.SearchLaws.{first-least, first-none, Least}
use Rattle.base.specs.Search.{first_from}
use Rattle.base.proofs.Tests.{and-swap, bool_cases, eq-cases, eq-eqb, eqb-eq, eqb-self, ne_eqb, false_of_not, true_of_not}
use Rattle.blocks.specs.Entries.{nth}
use Rattle.blocks.specs.Owners.{owner_of}
use Rattle.blocks.specs.Promise.{Legal}
use Rattle.blocks.specs.declared.Entry.{Entry}
use Rattle.blocks.specs.declared.Schema.TheVariants.{Description}
use Rattle.items.proofs.DegreeLaws.{count-ext}
use Rattle.items.proofs.EveryLaws.{every-out}
use Rattle.items.specs.code.Record.{record_in}
use Rattle.items.specs.code.Facts.{degree_in, has_in, item_in, leads_out, linked_in, target_in}
use Rattle.items.specs.code.Record.{passed}
use Rattle.places.specs.Owned.{next_of, owned_after}
use Rattle.base.specs.Keys.{unless_zero}
use Rattle.std.specs.Prelude.{Option, unwrap_or}
use Rattle.logic.proofs.Records.Counting.{every-ext}
use Rattle.logic.specs.Place.{Place, atom, kind_of}
use Rattle.logic.specs.Record.{Record, count, each_linked, fits, meets, successors}
use Rattle.logic.specs.Tree.{end, leaf, node}
use Rattle.meaning.proofs.Descriptions.Places.{all_here, asks, place-owned}
use Rattle.meaning.specs.Description.{atom_of, place_of}
use Rattle.meaning.specs.Owned.{all_owned, all_where}

-- ---- facts that say one thing

module _ (fs S : List ℕ) (what : ℕ) (those : (p : ℕ → Bool) → list_any p S ≡ list_any (λ f. eqb (f / 65536) what && p f) fs) where
  pub property-has : (p x : ℕ) → what ≡ 2 * p → has_in S x ≡ (record_in fs).property p x
  unfolding record_in
  property-has p x z = those (λ f. eqb (item_in f) x) ∙ rw z

  linked-those : (l x y : ℕ) → what ≡ 2 * l + 1 → linked_in S x y ≡ (record_in fs).link l x y
  unfolding record_in
  linked-those l x y z = those (λ f. eqb (item_in f) x && eqb (target_in f) y) ∙ rw z

  pub successors-degree : (l x : ℕ) → what ≡ 2 * l + 1 → successors (record_in fs) l x ≡ degree_in S x
  unfolding record_in
  successors-degree l x z = count-ext _ _ 256 (λ y h. sym (linked-those l x y z))

  pub each-out : (l x : ℕ) (below : List Bool) (p : ℕ → Bool) → what ≡ 2 * l + 1 → ((y : ℕ) → y < 256 → get_or below y false ≡ p y)
      → not (leads_out S below x) ≡ each_linked (record_in fs) l x p
  unfolding record_in
  each-out l x below p z h =
      sym (every-out S below x) ∙ every-ext _ _ 256 (λ y k. let e = linked-those l x y z in rw (e, h y k))

-- ---- what an entry asks

module _ (c : Record) (e : Entry) (x : ℕ) where
  pub meets-has : e.kind ≡ 1 → meets c (atom_of e) x ≡ c.property e.name x
  unfolding kind_of
  meets-has z = rw z

  pub meets-lacks : e.kind ≡ 2 → meets c (atom_of e) x ≡ not (c.property e.name x)
  unfolding kind_of
  meets-lacks z = rw z

  pub meets-least : e.kind ≡ 3 → meets c (atom_of e) x ≡ leb e.number (successors c e.name x)
  unfolding kind_of
  meets-least z = rw z

  pub meets-most : e.kind ≡ 4 → meets c (atom_of e) x ≡ leb (successors c e.name x) e.number
  unfolding kind_of
  meets-most z = rw z

  pub meets-nothing : e.kind ≢ 1 → e.kind ≢ 2 → e.kind ≢ 3 → e.kind ≢ 4 → meets c (atom_of e) x ≡ false
  unfolding kind_of
  meets-nothing a b d f = rw (ne_eqb a, ne_eqb b, ne_eqb d, ne_eqb f)

-- ---- a place, entry by entry

-- a place by the entries there
here-fits : (c : Record) (t : Place) (x : ℕ) → fits c t x ≡ all_here (λ a. meets c a x) (λ l u. each_linked c l x (λ y. fits c u y)) t
unfolding fits all_here
here-fits c end x = refl
here-fits c (leaf a r) x = rw (here-fits c r x)
here-fits c (node l t r) x = rw (here-fits c r x)

-- what entry n asks of item x
abbrev pub asked : Record → List Entry → ℕ → ℕ → Bool
asked c es x n = asks (λ a. meets c a x) (λ l u. each_linked c l x (λ y. fits c u y)) es n (nth es n)

pub place-fits : (c : Record) (es : List Entry) → Legal Description es → (o x : ℕ) → fits c (place_of es o) x ≡ all_owned (asked c es x) es o (length es)
place-fits c es L o x = here-fits c (place_of es o) x ∙ place-owned es L (λ a. meets c a x) (λ l u. each_linked c l x (λ y. fits c u y)) o

pub asked-every : (c : Record) (es : List Entry) (x n : ℕ) {e : Entry} → e ≡ nth es n → e.kind ≡ 5
    → asked c es x n ≡ each_linked c e.name x (λ y. fits c (place_of es n) y)
asked-every c es x n a k = rw (← a, k)

pub asked-atom : (c : Record) (es : List Entry) (x n : ℕ) {e : Entry} → e ≡ nth es n → e.kind ≢ 5 → asked c es x n ≡ meets c (atom_of e) x
asked-atom c es x n a k = rw (← a, ne_eqb k)

module _ (p : ℕ → Bool) (es : List Entry) (o : ℕ) where
  -- entries of other owners ask nothing
  owned-gap : (n m : ℕ) → n ≤ m → ((k : ℕ) → n < k → k ≤ m → not (eqb (owner_of es k) o) ≡ true) → all_owned p es o m ≡ all_owned p es o n
  unfolding all_where
  owned-gap n zero le f = let z : n ≡ 0 = omega arith in rw z
  owned-gap n (suc m) le f =
      eq-cases n (suc m)
      (λ z. rw z)
      (λ z. rw (f (suc m) (omega arith) (omega arith)) (owned-gap n m (omega arith) (λ k a b. f k a (omega arith))))

  pub owned-run : (n : ℕ) → n ≤ length es → all_owned p es o (passed es (owned_after es o n)) ≡ all_owned p es o n
  unfolding owned_after passed
  owned-run n le =
      let test : ℕ → Bool = λ k. not (eqb (owner_of es k) o) in
      eq-cases (owned_after es o n) 0
      (λ z.
      let z' : first_from test (suc n) (length es - n) ≡ 0 = z in
      rw (passed, eq-eqb z) (owned-gap n (length es) le (λ k a b. first-none test (suc n) (length es - n) (omega arith) z' k (omega arith) (omega arith))))
      (λ z.
      let F = first-least test (suc n) (length es - n) {k = owned_after es o n} refl z in
      rw (passed, ne_eqb z) (owned-gap n (owned_after es o n - 1) (omega (arith, F.low)) (λ k a b. F.before k (omega arith) (omega arith))))

  -- the entry that comes next stands later, and o owns it
  pub next-owned : (n : ℕ) → n ≤ length es → owned_after es o n ≢ 0
      → (owner_of es (owned_after es o n) ≡ o) × (n < owned_after es o n) × (owned_after es o n ≤ length es)
  unfolding owned_after
  next-owned n le z =
      let F = first-least (λ k. not (eqb (owner_of es k) o)) (suc n) (length es - n) {k = owned_after es o n} refl z in
      (eqb-eq (true_of_not _ F.fails), omega (arith, F.low), omega (arith, F.high))

  -- one entry more is gone over
  pub owned-more : (n : ℕ) → 1 ≤ n → n ≤ length es → owner_of es n ≡ o
      → all_owned p es o (passed es (owned_after es o n)) ≡ (p n && all_owned p es o (passed es n))
  unfolding passed all_where
  owned-more zero lo hi z = absurd (omega arith)
  owned-more (suc n) lo hi z =
      let e : passed es (suc n) ≡ n = rw (passed, ne_eqb {m = suc n} {n = 0} (λ q. omega arith)) (omega arith) in
      owned-run (suc n) hi ∙ rw (e, eq-eqb z)

  -- what comes next, if anything does
  pub next-within : (n : ℕ) → n ≤ length es → owned_after es o n ≤ length es
  next-within n le = eq-cases (owned_after es o n) 0 (λ z. omega arith) (λ z. (next-owned n le z).2)

-- what stands for a number that may be none
pub number-or : {r : Option ℕ} {at : ℕ} (n : ℕ) → r ≡ unless_zero n → at ≡ unwrap_or r 0 → at ≡ n
number-or zero e f = f ∙ rw e
number-or (suc n) e f = f ∙ rw e

pub next-is : (es : List Entry) (n : ℕ) → n ≢ 0 → next_of es n ≡ owned_after es (owner_of es n) n
unfolding next_of
next-is es n z = rw (next_of, ne_eqb z)

-- fewer entries are left to pass
pub passed-more : (es : List Entry) (at next : ℕ) → at ≢ 0 → at ≤ length es → next ≤ length es → (next ≢ 0 → at < next)
    → length es - passed es next < length es - passed es at
unfolding passed
passed-more es at next z le le' more =
    let a : passed es at ≡ at - 1 = rw (passed, ne_eqb z) in
    eq-cases next 0
    (λ q. let b : passed es next ≡ length es = rw (passed, eq-eqb q) in omega arith)
    (λ q. let b : passed es next ≡ next - 1 = rw (passed, ne_eqb q) in let m = more q in omega arith)

pub passed-none : (es : List Entry) (at : ℕ) → at ≡ 0 → passed es at ≡ length es
unfolding passed
passed-none es at z = rw (passed, eq-eqb z)

and-turn : (a b p : Bool) → ((a && b) && p) ≡ (a && (p && b))
and-turn true true p = bool_cases p (λ q. rw q) (λ q. rw q)
and-turn true false p = bool_cases p (λ q. rw q) (λ q. rw q)
and-turn false b p = refl

-- marks after one entry more
pub marks-more : (p : ℕ → Bool) (es : List Entry) (o n next : ℕ) (m₀ : Bool) {m m' : Bool} → n ≢ 0 → n ≤ length es → owner_of es n ≡ o → next ≡ owned_after es (owner_of es n) n
    → m ≡ (m₀ && all_owned p es o (passed es n)) → m' ≡ (m && p n) → m' ≡ (m₀ && all_owned p es o (passed es next))
marks-more p es o n next m₀ z le w e h h' =
    let e' : next ≡ owned_after es o n = rw w at e in
    rw (h', h, e', owned-more p es o n (omega arith) le w) (and-turn m₀ (all_owned p es o (passed es n)) (p n))
