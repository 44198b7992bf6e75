-- Laws of packed entries, and of the list that is left where some are left out.
-- Assumes nothing.
use Prim.Native.Nat.{◌%◌, ◌*◌, ◌+◌, ◌-◌, ◌/◌, ◌<◌, ◌≤◌, suc, zero, ℕ}
use lib.Dec.{eqb}
use lib.ListN.{drop, get_or, get_or-append, length, length-append, length-drop, length-map, set, take}
use lib.Seq.{ext_get_or, get_or-append-add, get_or-drop, get_or-set_other, get_or-set_same, get_or-take, length-take-le}
use mathlib.Core.Bool.{Bool, ◌||◌, cond, false, true}
use mathlib.Core.List.{List, [], ◌++◌, ◌∷◌, map}
use mathlib.Core.Path.{◌∙◌, ◌≡◌, ap, refl, sym}
use native.Mathlib.Omega.{arith}
use Rattle.base.proofs.Lists.{get_d-map-in}
use Rattle.base.proofs.Tests.{eq-cases, lt-cases}
use Rattle.blocks.proofs.Refusing.Bounds.{AllBounded}
use Rattle.blocks.specs.Entries.{Bounded, nth, packed, zero_entry}
use Rattle.blocks.specs.declared.Entry.{Entry}
use Rattle.earning.specs.code.Tried.{Listed, Packed, front_in, rest_in}
use Rattle.narrow.proofs.Keeping.Thinned.{left_at, nth-thinned, size}
use Rattle.narrow.specs.Keeping.{neutral, thinned}
use Rattle.unfolding.proofs.RowLaws.{row-entry}
use Rattle.unfolding.specs.code.Rows.{entry_of_row}

-- ---- one packed entry

kind-in : (e : Entry) → Bounded e → packed e % 256 ≡ e.kind
unfolding entry_of_row
kind-in e b = ap (λ (r : Entry). r.kind) (row-entry e b)

owner_in : (e : Entry) → Bounded e → packed e / 65536 % 65536 ≡ e.owner
unfolding entry_of_row
owner_in e b = ap (λ (r : Entry). r.owner) (row-entry e b)

pub every_packed : (x : ℕ) (e : Entry) → Bounded e → x ≡ packed e → eqb (x % 256) 5 ≡ eqb e.kind 5
every_packed x e b h = rw h (ap (λ (y : ℕ). eqb y 5) (kind-in e b))

pub neutral_packed : (x : ℕ) (e : Entry) → Bounded e → x ≡ packed e → 4294967299 + 65536 * (x / 65536 % 65536) ≡ packed (neutral e)
unfolding packed
neutral_packed x e b h =
    let o : x / 65536 % 65536 ≡ e.owner = ap (λ (y : ℕ). y / 65536 % 65536) h ∙ unfold packed in owner_in e b in
    rw o (omega arith)

bounded-neutral : (e : Entry) → Bounded e → Bounded (neutral e)
bounded-neutral e b = record { kind = omega arith; reserved = omega arith; owner = b.owner; name = omega arith; number = omega arith }

-- ---- the list

module _ (pre es : List Entry) (K : ℕ → Bool) where
  abbrev pub left : List Entry
  left = pre ++ thinned K 1 es

  pub left-long : length left ≡ length pre + length es
  left-long = length-append pre (thinned K 1 es) ∙ ap (λ (n : ℕ). length pre + n) (size K es)

  left-front : (i : ℕ) → i < length pre → nth left (suc i) ≡ nth pre (suc i)
  unfolding nth
  left-front i h = get_or-append pre (thinned K 1 es) zero_entry i h

  left-rest : (i : ℕ) → i < length es → nth left (suc (length pre + i)) ≡ left_at K (suc i) (nth es (suc i))
  unfolding nth
  left-rest i h =
      get_or-append-add pre (thinned K 1 es) i zero_entry ∙ nth-thinned K es (suc i) (omega arith) (omega arith)

  bounded-left : AllBounded pre → AllBounded es → AllBounded left
  unfolding nth
  bounded-left p q =
      record {
        each = λ k h. lt-cases k (length pre)
            (λ l. let e : get_or left k zero_entry ≡ get_or pre k zero_entry = left-front k l in rw e (p.each k l))
            (λ l.
            let i = k - length pre in
            let w : k ≡ length pre + i = omega arith in
            let s : i < length es = omega (arith, left-long) in
            let e : get_or left (length pre + i) zero_entry ≡ left_at K (suc i) (get_or es i zero_entry) = left-rest i s in
            rw (w, e) (choose (eqb (get_or es i zero_entry).kind 5 || K (suc i)) (get_or es i zero_entry) (q.each i s)));
      }
    where
      choose : (t : Bool) (e : Entry) → Bounded e → Bounded (cond t e (neutral e))
      choose true e b = b
      choose false e b = bounded-neutral e b

  -- it stands packed in a table that has the first entries as they are, and the others as they are left
  pub packed-left : {t rows : List ℕ} {s n : ℕ} → Listed pre es t s n → ((i : ℕ) → i < s → get_or rows i 0 ≡ get_or t i 0)
      → ((i : ℕ) → i < n → get_or rows (s + i) 0 ≡ packed (left_at K (suc i) (nth es (suc i)))) → Packed left rows 0
  packed-left {t} {rows} {s} {n} L f g =
      record {
        each = λ k h.
            let z : 0 + k ≡ k = omega arith in
            rw z (lt-cases k (length pre)
            (λ l. f k (omega (arith, L.before)) ∙ (rw z at (L.front.each k l)) ∙ ap packed (sym (left-front k l)))
            (λ l.
            let i = k - length pre in
            let w : k ≡ length pre + i = omega arith in
            let v : k ≡ s + i = omega (arith, L.before) in
            let m : i < length es = omega (arith, left-long) in
            ap (λ (j : ℕ). get_or rows j 0) v ∙ g i (omega (arith, L.count)) ∙ ap packed (sym (left-rest i m)) ∙ ap (λ (j : ℕ). packed (nth left (suc j))) (sym w)));
        bounded = bounded-left L.front.bounded L.rest.bounded;
      }

-- the numbers of a table that a list stands in are its packed entries
pub packed-taken : (es : List Entry) (t : List ℕ) (n : ℕ) → Packed es t 0 → n ≡ length es → n ≤ length t → take n t ≡ map packed es
unfolding nth
packed-taken es t n p e h =
    let long : length (take n t) ≡ n = length-take-le n t h in
    ext_get_or 0 (take n t) (map packed es) (long ∙ e ∙ sym (length-map es packed))
    (λ k l.
    let b : k < n = omega (arith, long) in
    let z : 0 + k ≡ k = omega arith in
    get_or-take n t k 0 b ∙ (rw z at (p.each k (omega (arith, e)))) ∙ sym (get_d-map-in packed es zero_entry 0 k (omega (arith, e))))

-- where all entries stay, they are the list
pub thinned-all : (K : ℕ → Bool) (k : ℕ) (es : List Entry) → ((i : ℕ) → i < length es → (eqb (get_or es i zero_entry).kind 5 || K (k + i)) ≡ true)
    → thinned K k es ≡ es
unfolding thinned
thinned-all K k [] h = refl
thinned-all K k (e ∷ es) h =
    let z : k + 0 ≡ k = omega arith in
    let here : (eqb e.kind 5 || K k) ≡ true = rw z at (h 0 (omega arith)) in
    rw (here, thinned-all K (suc k) es (λ i l. let w : k + suc i ≡ suc k + i = omega arith in rw w at (h (suc i) (omega arith)))) refl

-- ---- a table that has a list

-- the number of one of those that are tried
pub tried-from : {pre es : List Entry} {t : List ℕ} {s n : ℕ} → Listed pre es t s n → (i : ℕ) → i < n
    → (get_or t (s + i) 0 ≡ packed (nth es (suc i))) × Bounded (nth es (suc i))
unfolding nth
tried-from L i h = let m = L.count in (L.rest.each i (omega arith), L.rest.bounded.each i (omega arith))

pub tried-at : {pre es : List Entry} {t : List ℕ} {s n : ℕ} → Listed pre es t s n → (k : ℕ) → 1 ≤ k → k ≤ n
    → (get_or t (s + k - 1) 0 ≡ packed (nth es k)) × Bounded (nth es k)
tried-at L zero lo hi = absurd (omega arith)
tried-at {t = t} {s = s} L (suc i) lo hi =
    let p = tried-from L i (omega arith) in
    let w : s + suc i - 1 ≡ s + i = omega arith in
    (ap (λ (j : ℕ). get_or t j 0) w ∙ p.0, p.1)

-- a mark that is read, whatever would be read past the end
pub mark-read : (t : List Bool) (d : Bool) (i : ℕ) → i < length t → get_or t i d ≡ get_or t i true
mark-read [] d i h = absurd (omega arith)
mark-read (x ∷ t) d zero h = refl
mark-read (x ∷ t) d (suc i) h = mark-read t d i (omega arith)

-- one more is left, or left out
pub thin-front : (t rows : List ℕ) (s i x : ℕ) → ((j : ℕ) → j < s → get_or rows j 0 ≡ get_or t j 0)
    → (j : ℕ) → j < s → get_or (set rows (s + i) x) j 0 ≡ get_or t j 0
thin-front t rows s i x f j h = get_or-set_other rows (s + i) j x 0 (λ z. omega arith) ∙ f j h

pub thin-more : (es : List Entry) (K : ℕ → Bool) (rows : List ℕ) (s i : ℕ) {x : ℕ} → s + i < length rows
    → ((m : ℕ) → m < i → get_or rows (s + m) 0 ≡ packed (left_at K (suc m) (nth es (suc m)))) → x ≡ packed (left_at K (suc i) (nth es (suc i)))
    → (m : ℕ) → m < i + 1 → get_or (set rows (s + i) x) (s + m) 0 ≡ packed (left_at K (suc m) (nth es (suc m)))
thin-more es K rows s i {x} within f e m h =
    eq-cases m i
    (λ z. rw z (get_or-set_same rows (s + i) x 0 within ∙ e))
    (λ z. get_or-set_other rows (s + i) (s + m) x 0 (λ y. z (omega arith)) ∙ f m (omega arith))

-- ---- the entries that the numbers of a table stand for

pub rows-back : (es : List Entry) → AllBounded es → {rows : List ℕ} → rows ≡ map packed es → map entry_of_row rows ≡ es
unfolding nth
rows-back es b e = rw e (back es (λ k h. b.each k h))
  where
    back : (es : List Entry) → ((k : ℕ) → k < length es → Bounded (get_or es k zero_entry)) → map entry_of_row (map packed es) ≡ es
    back [] h = refl
    back (x ∷ xs) h = rw (row-entry x (h 0 (omega arith)), back xs (λ k l. h (suc k) (omega arith))) refl

-- a list in a table is that of its numbers
pub listed-again : {pre es : List Entry} {t : List ℕ} {s n : ℕ} → s + n ≤ length t → Listed pre es t s n → Listed (front_in t s) (rest_in t s n) t s n
listed-again {pre} {es} {t} {s} {n} h L =
    let f : front_in t s ≡ pre = rows-back pre L.front.bounded (packed-taken pre t s L.front L.before (omega arith)) in
    let long : length (drop s t) ≡ length t - s = length-drop s t in
    let at : Packed es (drop s t) 0 = record { each = λ i l. let z : 0 + i ≡ i = omega arith in rw z (get_or-drop s t i 0 ∙ L.rest.each i l); bounded = L.rest.bounded } in
    let r : rest_in t s n ≡ es = rows-back es L.rest.bounded (packed-taken es (drop s t) n at L.count (omega (arith, long))) in
    rw (f, r) L
