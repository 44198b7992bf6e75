-- The narrowest of two field sheets is a sheet, where some item fits one of them and no properties exclude each other.
-- Assumes nothing.
use Prim.Native.Nat.{◌<◌, ◌≤◌, suc, zero, ℕ}
use lib.ListN.{get_or, length, length-map}
use mathlib.Core.Bool.{false, false≢true, true}
use mathlib.Core.List.{List, [], ◌∷◌, map}
use mathlib.Core.Logic.{◌⊎◌, inl, inr, ⊎_elim}
use mathlib.Core.Option.{some}
use mathlib.Core.Path.{◌∙◌, ◌≡◌, refl}
use native.Mathlib.Omega.{arith}
use Rattle.base.proofs.Tests.{both_ways}
use Rattle.blocks.specs.Entries.{nth, zero_entry}
use Rattle.blocks.specs.Owners.{depth_of}
use Rattle.blocks.specs.Promise.{Legal}
use Rattle.blocks.specs.declared.Entry.{Entry}
use Rattle.blocks.specs.declared.Schema.TheVariants.{Description}
use Rattle.logic.proofs.NormalForm.IsNormal.{nf-normal}
use Rattle.logic.proofs.NormalForm.NormalAtoms.{nf-all}
use Rattle.logic.proofs.NormalForm.NormalSize.{nf-levels}
use Rattle.logic.proofs.NormalForm.Sound.{nf-sound}
use Rattle.logic.proofs.TreeRows.AllEntries.{AllEntries, AllRows, OfRow, row-all, tree_all, write-all}
use Rattle.logic.specs.Background.{Background, Keeps, LawfulBackground}
use Rattle.logic.specs.Canonical.{Canonical, Normal, canonical}
use Rattle.logic.specs.Layout.{write}
use Rattle.logic.specs.Normal.{bottom, clash, find, nf, stored}
use Rattle.logic.specs.Place.{Atom, Kind, Place, atom, has, kind_of, lacks, least, most, nothing}
use Rattle.logic.specs.Record.{Record, fits}
use Rattle.logic.specs.Size.{levels}
use Rattle.logic.specs.Tree.{Row, leaf_row, node_row}
use Rattle.logic.specs.Witness.{member}
use Rattle.meaning.proofs.NormalForms.NormalDepth.{depth-levels, levels-most}
use Rattle.meaning.specs.Description.{place_of, row_of}
use Rattle.meaning.specs.Failing.{normal_of}
use Rattle.meaning.specs.RowEntries.{row_entry}
use Rattle.meaning.proofs.Descriptions.EntryFields.{Positive}
use Rattle.narrow.proofs.Joining.JoinMeans.{canonical-joined}
use Rattle.narrow.proofs.Joining.JoinEntries.{all-each, each-all, each-found, each-sub, listed-each}
use Rattle.narrow.proofs.Joining.NarrowestKept.{bottom-none, narrowest-all, narrowest-cases, narrowest-legal, narrowest-levels, narrowest-read}
use Rattle.narrow.specs.Join.{narrowest}
use Rattle.narrow.specs.Narrowest.{narrowest_entries, narrowest_place}
use Rattle.narrow.specs.Profile.{Sheet}

-- an atom of a sheet, and one of its normal form, which may be that nothing fits
abbrev SheetAtom : Atom → Type 0
SheetAtom (atom has p m) = m ≤ 99
SheetAtom (atom lacks p m) = ⊥
SheetAtom (atom least l m) = m ≤ 99
SheetAtom (atom most l m) = m ≤ 99
SheetAtom (atom nothing n m) = ⊥

abbrev MayBe : Atom → Type 0
MayBe (atom has p m) = m ≤ 99
MayBe (atom lacks p m) = ⊥
MayBe (atom least l m) = m ≤ 99
MayBe (atom most l m) = m ≤ 99
MayBe (atom nothing n m) = Unit {0}

abbrev AnyLink : ℕ → Type 0
AnyLink l = Unit {0}

-- ---- from entries to places

row-sheet : (e : Entry) → (e.kind ≡ 1) ⊎ ((e.kind ≡ 3) ⊎ ((e.kind ≡ 4) ⊎ (e.kind ≡ 5))) → e.number ≤ 99 → OfRow SheetAtom AnyLink (row_of e)
unfolding row_of kind_of
row-sheet e (inl k) h = rw k h
row-sheet e (inr (inl k)) h = rw k h
row-sheet e (inr (inr (inl k))) h = rw k h
row-sheet e (inr (inr (inr k))) h = rw k tt

rows-sheet : (es : List Entry) → ((i : ℕ) → i < length es → OfRow SheetAtom AnyLink (row_of (get_or es i zero_entry))) → AllRows SheetAtom AnyLink (map row_of es)
rows-sheet [] f = tt
rows-sheet (e ∷ es) f = (f 0 (omega arith), rows-sheet es (λ i h. f (suc i) (omega arith)))

place-sheet : (es : List Entry) → Sheet es → AllEntries SheetAtom AnyLink (place_of es 0)
unfolding place_of nth
place-sheet es s =
    tree_all SheetAtom AnyLink 1 (map row_of es) 0
    (rows-sheet es (λ i h. let p = s (suc i) (omega arith) (omega arith) in row-sheet (get_or es i zero_entry) p.kind p.number))

-- ---- the normal form

normal-sheet : (b : Background) (t : Place) → AllEntries SheetAtom AnyLink t → AllEntries MayBe AnyLink (nf b t)
normal-sheet b t h = nf-all MayBe AnyLink b SheetAtom tt (λ l x. omega arith) store t h
  where
    store : (v : Place) (k : Kind) (n m : ℕ) → SheetAtom (atom k n m) → clash b v (atom k n m) ≡ false → MayBe (atom k n (stored k m))
    store v has n m x z = omega arith
    store v lacks n m x z = absurd x
    store v least n m x z = x
    store v most n m x z = x
    store v nothing n m x z = absurd x

-- a normal place that is alive says of no place that nothing fits
alive-sheet : {b : Background} {t : Place} → Canonical b t → AllEntries MayBe AnyLink t → AllEntries SheetAtom AnyLink t
alive-sheet {b} {t} (canonical a c d f) h =
    each-all SheetAtom AnyLink t
    (listed-each SheetAtom (λ l s. AnyLink l × AllEntries SheetAtom AnyLink s) t a
    (λ k n m e. some-kind k n m e (each-found MayBe (λ l s. AnyLink l × AllEntries MayBe AnyLink s) k n m t e (all-each MayBe AnyLink t h)))
    (λ l e. (tt, alive-sheet (f l e) (each-sub MayBe (λ l s. AnyLink l × AllEntries MayBe AnyLink s) l t e (all-each MayBe AnyLink t h)).1)))
  where
    some-kind : (k : Kind) (n m : ℕ) → find k n t ≡ some m → MayBe (atom k n m) → SheetAtom (atom k n m)
    some-kind has n m e x = x
    some-kind lacks n m e x = x
    some-kind least n m e x = x
    some-kind most n m e x = x
    some-kind nothing n m e x = false≢true (c nothing n m e).1

-- ---- from places to entries

record SheetEntry (e : Entry) : Type 0 where
  kind : (e.kind ≡ 1) ⊎ ((e.kind ≡ 3) ⊎ ((e.kind ≡ 4) ⊎ (e.kind ≡ 5)))
  number : e.number ≤ 99

sheet-row : (r : Row Atom ℕ) → OfRow SheetAtom AnyLink r → SheetEntry (row_entry r)
sheet-row (leaf_row o (atom has n m)) h = record { kind = inl refl; number = h }
sheet-row (leaf_row o (atom lacks n m)) h = absurd h
sheet-row (leaf_row o (atom least n m)) h = record { kind = inr (inl refl); number = h }
sheet-row (leaf_row o (atom most n m)) h = record { kind = inr (inr (inl refl)); number = h }
sheet-row (leaf_row o (atom nothing n m)) h = absurd h
sheet-row (node_row o l) h = record { kind = inr (inr (inr refl)); number = omega arith }

-- ---- the theorem

module _ {b : Background} (law : LawfulBackground b) (none-excluded : (p q : ℕ) → b.excludes p q ≡ false) (c d : List Entry)
    (C : Legal Description c) (D : Legal Description d) (sc : Sheet c) (sd : Sheet d) where
  all-named : (p q : ℕ) → b.excludes q p ≡ true → member p [] ≡ true
  all-named p q e = both_ways e (none-excluded q p)

  abbrev t : Place
  t = nf b (place_of c 0)

  abbrev u : Place
  u = nf b (place_of d 0)

  joined-sheet : AllEntries MayBe AnyLink (narrowest b [] t u)
  joined-sheet =
      narrowest-all law [] tt all-named MayBe AnyLink (λ p q m e x. both_ways e (none-excluded q p)) t u (nf-normal law (place_of c 0)) (nf-normal law (place_of d 0))
      (normal-sheet b (place_of c 0) (place-sheet c sc)) (normal-sheet b (place_of d 0) (place-sheet d sd))

  few-levels : levels (narrowest b [] t u) ≤ 4
  few-levels =
      narrowest-levels law [] tt all-named t u (nf-normal law (place_of c 0)) (nf-normal law (place_of d 0)) 4
      (omega (arith, nf-levels b (place_of c 0), levels-most c C 4 (λ n lo hi. let p = sc n lo hi in omega (arith, p.depth))))
      (omega (arith, nf-levels b (place_of d 0), levels-most d D 4 (λ n lo hi. let p = sd n lo hi in omega (arith, p.depth))))

  -- some item of some record fits at least one of them
  module _ (r : Record) (kept : Keeps b r) (x : ℕ) (inside : x < r.size)
      (some-item : (fits r (place_of c 0) x ≡ true) ⊎ (fits r (place_of d 0) x ≡ true)) where
    dead : (v : Place) → nf b v ≡ bottom → fits r v x ≡ true → ⊥
    dead v e h =
        let y : fits r (nf b v) x ≡ true = nf-sound r kept v x inside ∙ h in
        bottom-none r x (rw e at y)

    other-alive : (v w : Place) → nf b v ≡ bottom → Normal b (nf b w) → (fits r v x ≡ true) ⊎ (fits r w x ≡ true) → Canonical b (nf b w)
    other-alive v w e (inr h) s = h
    other-alive v w e (inl f) s = ⊎_elim (λ h. absurd (dead v e h)) (λ h. absurd (dead w f h)) s

    alive-narrowest : Canonical b (narrowest b [] t u)
    alive-narrowest =
        narrowest-cases law [] tt all-named (λ j. Canonical b j) t u (nf-normal law (place_of c 0)) (nf-normal law (place_of d 0))
        (λ e. other-alive (place_of c 0) (place_of d 0) e (nf-normal law (place_of d 0)) some-item)
        (λ e. other-alive (place_of d 0) (place_of c 0) e (nf-normal law (place_of c 0)) (⊎_elim (λ h. inr h) (λ h. inl h) some-item))
        (λ ct cu. canonical-joined law [] tt all-named t u ct cu)

    abbrev N : List Entry
    N = narrowest_entries b [] c d

    entry-sheet : (i : ℕ) → i < length (write (narrowest b [] t u)) → SheetEntry (get_or (map row_entry (write (narrowest b [] t u))) i zero_entry)
    entry-sheet =
        row-all SheetAtom AnyLink row_entry SheetEntry sheet-row (write (narrowest b [] t u))
        (write-all SheetAtom AnyLink (narrowest b [] t u) (alive-sheet alive-narrowest joined-sheet)) zero_entry

    nth-sheet : (n : ℕ) → 1 ≤ n → n ≤ length N → SheetEntry (nth N n)
    unfolding nth narrowest_entries narrowest_place normal_of
    nth-sheet zero lo hi = absurd (omega arith)
    nth-sheet (suc i) lo hi = entry-sheet i (omega (arith, length-map (write (narrowest b [] t u)) row_entry))

    pub narrowest-sheet : Sheet N
    unfolding narrowest_place normal_of
    narrowest-sheet n lo hi =
        let e = nth-sheet n lo hi in
        let named : (p q : ℕ) → b.excludes q p ≡ true → Positive p = λ p q y. both_ways y (none-excluded q p) in
        let legal = narrowest-legal law [] tt all-named c d C D named in
        let read : place_of N 0 ≡ narrowest b [] t u = narrowest-read law [] tt all-named c d C D named in
        let deep : depth_of N n < levels (place_of N 0) = depth-levels N legal n lo hi in
        let low : levels (place_of N 0) ≤ 4 = rw read few-levels in
        record { kind = e.kind; number = e.number; depth = omega arith }
