-- No rule of the normal form applies to a normal form as it is written.
-- Assumes nothing.
use Prim.Native.Nat.{◌<◌, suc, zero, ℕ}
use lib.Dec.{eqb}
use lib.ListN.{length, length-map}
use mathlib.Core.Bool.{Bool, ◌&&◌, ◌||◌, false, false≢true, not, true}
use mathlib.Core.List.{List, map}
use mathlib.Core.Logic.{◌≢◌, inl, inr, ⊎_elim}
use mathlib.Core.Option.{some}
use mathlib.Core.Path.{◌∙◌, ◌≡◌, refl, sym}
use native.Mathlib.Omega.{arith}
use Rattle.base.proofs.Tests.{and_right, both_ways, eq-cases, false_of_not, le-leb, lt-cases, lt-ltb, neither_left, neither_right}
use Rattle.blocks.specs.Entries.{nth}
use Rattle.blocks.specs.declared.Entry.{Entry}
use Rattle.logic.proofs.NormalForm.IsNormal.{nf-normal}
use Rattle.logic.proofs.PlaceTrees.Lookup.{is-excluded}
use Rattle.logic.proofs.PlaceTrees.Order.{before-not}
use Rattle.logic.proofs.TreeRows.LayoutLaws.{write-early}
use Rattle.logic.specs.Background.{Background, LawfulBackground}
use Rattle.logic.specs.Canonical.{Canonical, Clean, Normal, canonical}
use Rattle.logic.specs.Layout.{lay, weight, write}
use Rattle.logic.specs.Normal.{at_most, before, bottom, clash, excluded, find, found, is_end, nf, rank, sub, supports, under}
use Rattle.logic.specs.Place.{Kind, Place, atom, has, lacks, least, most, nothing}
use Rattle.logic.specs.Tree.{end, tree}
use Rattle.meaning.proofs.NormalForms.RowPlaces.{EveryRow, ascending-rows, entry_of_row, every-row, no_rows, row_listed}
use Rattle.meaning.proofs.NormalForms.WrittenPlaces.{canonical-ascends, row-canonical}
use Rattle.meaning.specs.Description.{place_of}
use Rattle.meaning.specs.RowEntries.{row_entry}
use Rattle.meaning.specs.Rules.{AloneSix, Applies, Clashes, Equal, HasAndLacks, HasBoth, ImpliedLack, ImpliedMost, Is, IsEvery, LeastZero, Overasks, OwnsNothing, RemovesEvery, SaysNothing, Twice, rule-1, rule-10, rule-11, rule-12, rule-2, rule-3, rule-4, rule-5, rule-6, rule-7, rule-8, rule-9}

-- in a normal place nothing is at odds, and each entry tells something
clean_of : {b : Background} {t : Place} → Canonical b t → Clean b t
clean_of (canonical a c d s) = c

-- no 'every' of a link with at most 0
free_of : {b : Background} {t : Place} → Canonical b t → (l : ℕ) → is_end (sub l t) ≡ false → supports b t (atom most l 0) ≡ false
free_of (canonical a c d s) = d

-- ---- a normal place that is alive

module _ {b : Background} (law : LawfulBackground b) (t : Place) (normal : Canonical b t) where
  abbrev written : List Entry
  written = map row_entry (write t)

  -- what number o owns
  abbrev place_at : ℕ → Place
  place_at o = tree 1 (write t) o

  written-length : length written ≡ length (write t)
  written-length = length-map (write t) row_entry

  -- the place of an entry is normal
  place-canonical : {n k o l m : ℕ} → Is written n k o l m → Canonical b (place_at o)
  unfolding nth
  place-canonical {n = zero} h = absurd (omega (arith, h.from_one))
  place-canonical {n = suc i} h =
      rw (← h.its-owner) (row-canonical law t normal i (omega (arith, h.to_last, written-length)))

  -- and lists the entry, if it is no 'every'
  listed : (a : Kind) {n o l m : ℕ} → Is written n (rank a) o l m → find a l (place_at o) ≡ some m
  unfolding nth
  listed a {n = zero} h = absurd (omega (arith, h.from_one))
  listed a {n = suc i} {o} {l} {m} h =
      row_listed 1 (write t) i a o l m (omega (arith, h.to_last, written-length)) h.its-kind h.its-owner h.its-name h.its-number
      (canonical-ascends (place-canonical h))

  -- an 'every' has the place that it owns below it, and that is not empty
  every-listed : {n o l m : ℕ} → Is written n 5 o l m → EveryRow (place_at o) (place_at n) l
  unfolding nth
  every-listed {n = zero} h = absurd (omega (arith, h.from_one))
  every-listed {n = suc i} {o} {l} {m} h =
      every-row 1 (write t) (write-early t) i (suc i) o l (omega (arith, h.to_last, written-length)) (omega arith)
      h.its-kind h.its-owner h.its-name (canonical-ascends (place-canonical h))

  -- an entry does not stand after another one of its kind, owner and name
  not_after : {n n' k o l m m' : ℕ} → Is written n k o l m → Is written n' k o l m' → n < n' → ⊥
  unfolding nth
  not_after {n = zero} h g u = omega (arith, h.from_one)
  not_after {n = suc i} {n' = zero} h g u = omega (arith, g.from_one)
  not_after {n = suc i} {n' = suc j} {k} {o} {l} h g u =
      let p : before (entry_of_row (write t) i).kind (entry_of_row (write t) i).name (entry_of_row (write t) j).kind (entry_of_row (write t) j).name ≡ true =
      ascending-rows 1 (write t) i j o (omega arith) (omega (arith, g.to_last, written-length))
      h.its-owner g.its-owner (canonical-ascends (place-canonical h)) in
      before-not k l (rw (h.its-kind, h.its-name, g.its-kind, g.its-name) at p)

  -- so two such entries are one
  not-two : {n n' k o l m m' : ℕ} → n ≢ n' → Is written n k o l m → Is written n' k o l m' → ⊥
  not-two {n} {n'} z h g = lt-cases n n' (λ u. not_after h g u) (λ u. eq-cases n n' z (λ y. not_after g h (omega arith)))

  not-twice : (k : ℕ) → Twice written k → ⊥
  not-twice k h = not-two h.different h.is_one h.is-other

  not_equal : Equal written → ⊥
  not_equal h = not-two h.different h.is_one h.is-other

  -- ---- no place is impossible

  not-both : {o : ℕ} → HasAndLacks written o → ⊥
  not-both {o} h =
      let c : clash b (place_at o) (atom has h.property h.number) ≡ false =
      (clean_of (place-canonical h.is-having) has h.property h.number (listed has h.is-having)).0 in
      let f : found (find lacks h.property (place_at o)) ≡ true = rw (listed lacks h.is-lacking) in
      both_ways f (neither_left (found (find lacks h.property (place_at o))) (excluded b h.property (place_at o)) c)

  not-nothing : {o : ℕ} → SaysNothing written o → ⊥
  not-nothing h = false≢true (clean_of (place-canonical h.is-nothing) nothing h.name h.number (listed nothing h.is-nothing)).1

  -- a property that another of the place excludes
  excluded-by : {n o p q m : ℕ} → Is written n 1 o p m → b.excludes p q ≡ true → excluded b q (place_at o) ≡ true
  excluded-by {o = o} {p} {q} {m} h e =
      is-excluded b q (place_at o) (record { name = p; number = m; listed = listed has h; against = e })

  not-has-both : {o : ℕ} → HasBoth b written o → ⊥
  not-has-both {o} h =
      let c : clash b (place_at o) (atom has h.property' h.number') ≡ false =
      (clean_of (place-canonical h.is-other) has h.property' h.number' (listed has h.is-other)).0 in
      both_ways (excluded-by h.is_one h.excluding)
      (neither_right (found (find lacks h.property' (place_at o))) (excluded b h.property' (place_at o)) c)

  not-clashes : {o : ℕ} → Clashes b written o → ⊥
  not-clashes (inl h) = not-both h
  not-clashes (inr (inl h)) = not-nothing h
  not-clashes (inr (inr h)) = not-has-both h

  -- an at least that the place lists is ruled out neither by an at most nor by a cap
  asked-allowed : {n o l m : ℕ} → Is written n 3 o l m → (under m (find most l (place_at o)) || under m (b.cap l)) ≡ false
  asked-allowed {l = l} {m} h = (clean_of (place-canonical h) least l m (listed least h)).0

  not-overasks : {o : ℕ} → Overasks b written o → ⊥
  not-overasks {o} (inl h) =
      let f : under h.n (find most h.link (place_at o)) ≡ true = rw (listed most h.is-allowing) (lt-ltb h.less) in
      both_ways f (neither_left (under h.n (find most h.link (place_at o))) (under h.n (b.cap h.link)) (asked-allowed h.is-asking))
  not-overasks {o} (inr h) =
      let f : under h.n (b.cap h.link) ≡ true = rw h.capped (lt-ltb h.less) in
      both_ways f (neither_right (under h.n (find most h.link (place_at o))) (under h.n (b.cap h.link)) (asked-allowed h.is-asking))

  -- ---- nothing that goes

  not-removes : RemovesEvery written → ⊥
  not-removes h =
      let p : Place = place_at h.owner in
      let x : EveryRow p (place_at h.removed) h.link = every-listed h.is_removed in
      let c : supports b p (atom most h.link 0) ≡ false =
      free_of (place-canonical h.is_bound) h.link (rw x.below-link x.owns) in
      let f : at_most 0 (find most h.link p) ≡ true = rw (listed most h.is_bound) in
      both_ways f (neither_left (at_most 0 (find most h.link p)) (at_most 0 (b.cap h.link)) c)

  not-least-zero : LeastZero written → ⊥
  not-least-zero h = false≢true (clean_of (place-canonical h.is-least) least h.link 0 (listed least h.is-least)).1

  not-owns-nothing : OwnsNothing written → ⊥
  unfolding nth
  not-owns-nothing h =
      let e : place_at h.entry ≡ end =
      no_rows 1 (write t) h.entry (λ i l. h.owns_none (suc i) (omega arith) (omega (arith, written-length))) in
      let f : is_end (place_at h.entry) ≡ true = rw e in
      both_ways f (every-listed h.every.is-every).owns

  -- ---- nothing that the background says

  not-implied-lack : ImpliedLack b written → ⊥
  not-implied-lack h =
      let t : Bool = excluded b h.property' (place_at h.owner) in
      let tells : (eqb h.number' 0 && not t) ≡ true =
      (clean_of (place-canonical h.is-lacking) lacks h.property' h.number' (listed lacks h.is-lacking)).1 in
      both_ways (excluded-by h.is-having h.excluding) (false_of_not t (and_right (eqb h.number' 0) (not t) tells))

  not-implied-most : ImpliedMost b written → ⊥
  not-implied-most h =
      let tells : not (at_most h.n (b.cap h.link)) ≡ true =
      (clean_of (place-canonical h.is-most) most h.link h.n (listed most h.is-most)).1 in
      let says : at_most h.n (b.cap h.link) ≡ true = rw h.capped (le-leb h.said) in
      both_ways says (false_of_not (at_most h.n (b.cap h.link)) tells)

  -- ---- no rule

  alive-no-rule : (k : ℕ) → Applies b k written → ⊥
  alive-no-rule k (rule-1 h) = not-twice 5 h
  alive-no-rule k (rule-2 h) = not-clashes h.clashes
  alive-no-rule k (rule-3 h) = not-overasks h.overasks
  alive-no-rule k (rule-4 h) = not-removes h
  alive-no-rule k (rule-5 h) = ⊎_elim not-clashes not-overasks h.impossible
  alive-no-rule k (rule-6 h) = not-twice 4 h
  alive-no-rule k (rule-7 h) = not-twice 3 h
  alive-no-rule k (rule-8 h) = not-least-zero h
  alive-no-rule k (rule-9 h) = not-owns-nothing h
  alive-no-rule k (rule-10 h) = not_equal h
  alive-no-rule k (rule-11 h) = not-implied-lack h
  alive-no-rule k (rule-12 h) = not-implied-most h

-- ---- one entry of kind 6

module _ (es : List Entry) (six : AloneSix es) where
  only-first : {n k o l m : ℕ} → Is es n k o l m → n ≡ 1
  only-first h = omega (arith, h.from_one, h.to_last, six.alone)

  only-kind : {n k o l m : ℕ} → Is es n k o l m → k ≡ 6
  only-kind h = let e : (nth es 1).kind ≡ 6 = six.six in sym h.its-kind ∙ rw (only-first h) e

  six-twice : (k : ℕ) → Twice es k → ⊥
  six-twice k h = h.different (only-first h.is_one ∙ sym (only-first h.is-other))

  six-every : {n : ℕ} → IsEvery es n → ⊥
  six-every h = omega (arith, only-kind h.is-every)

  -- no rule applies to one entry of kind 6 alone
  pub six-no-rule : (b : Background) (k : ℕ) → Applies b k es → ⊥
  six-no-rule b k (rule-1 h) = six-twice 5 h
  six-no-rule b k (rule-2 h) = six-every h.every
  six-no-rule b k (rule-3 h) = six-every h.every
  six-no-rule b k (rule-4 h) = omega (arith, only-kind h.is_bound)
  six-no-rule b k (rule-5 h) = h.not-alone six
  six-no-rule b k (rule-6 h) = six-twice 4 h
  six-no-rule b k (rule-7 h) = six-twice 3 h
  six-no-rule b k (rule-8 h) = omega (arith, only-kind h.is-least)
  six-no-rule b k (rule-9 h) = six-every h.every
  six-no-rule b k (rule-10 h) = h.different (only-first h.is_one ∙ sym (only-first h.is-other))
  six-no-rule b k (rule-11 h) = omega (arith, only-kind h.is-having)
  six-no-rule b k (rule-12 h) = omega (arith, only-kind h.is-most)

-- the place that nothing fits is written as such
bottom-six : AloneSix (map row_entry (write bottom))
unfolding write lay weight nth
bottom-six = record { alone = refl; six = refl }

-- ---- normal forms

module _ {b : Background} (law : LawfulBackground b) where
  -- no rule applies to the rows of a normal place
  pub canonical-no-rule : (t : Place) → Normal b t → (k : ℕ) → Applies b k (map row_entry (write t)) → ⊥
  canonical-no-rule t (inl e) k h = six-no-rule (map row_entry (write bottom)) bottom-six b k (rw e at h)
  canonical-no-rule t (inr c) k h = alive-no-rule law t c k h

  -- no rule applies to the normal form of any entries
  pub no-rule : (es : List Entry) (k : ℕ) → Applies b k (map row_entry (write (nf b (place_of es 0)))) → ⊥
  no-rule es k h = canonical-no-rule (nf b (place_of es 0)) (nf-normal law (place_of es 0)) k h
