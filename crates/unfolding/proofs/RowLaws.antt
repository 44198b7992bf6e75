-- Laws of entries as numbers in a lent table.
-- Assumes nothing.
use Prim.Native.Nat.{◌%◌, ◌*◌, ◌+◌, ◌/◌, ◌<◌, ◌≤◌, max, suc, zero, ℕ}
use lib.ListN.{drop, length, length-map, set, take}
use lib.Seq.{length-take-le, take-suc-set}
use lib.Dec.{eqb}
use mathlib.Core.Bool.{◌||◌, Bool, cond, false, true}
use mathlib.Core.List.{List, [], ◌++◌, ◌∷◌, map, map-append}
use mathlib.Core.Path.{◌∙◌, ◌≡◌, ap, refl, sym}
use native.Mathlib.Omega.{arith}
use Rattle.base.proofs.Parts.{high_is, high_of}
use Rattle.base.proofs.Split.{place_of, row_of}
use Rattle.base.proofs.Tests.{bool_cases}
use Rattle.std.proofs.lemmas.Bool.{or_parts}
use Rattle.std.proofs.lemmas.List.{drop-map, take-map}
use Rattle.std.specs.List.{list_any}
use Rattle.blocks.specs.Encoding.{row_bytes}
use Rattle.blocks.specs.Entries.{Bounded, entry_bytes, is_named, nth, packed}
use Rattle.blocks.specs.Words.{word_bytes}
use Rattle.blocks.specs.declared.Entry.{Entry}
use Rattle.names.specs.Unfold.{relocate}
use Rattle.unfolding.specs.code.Rows.{entries_in, entry_of_row, greatest_name}

-- the first of the first ones
pub take-twice : {A : Type 0} (k j : ℕ) (l : List A) → k ≤ j → take k (take j l) ≡ take k l
take-twice zero j l h = refl
take-twice (suc k) zero l h = absurd (omega arith)
take-twice (suc k) (suc j) [] h = refl
take-twice {A = A} (suc k) (suc j) (x ∷ l) h = ap (λ (t : List A). x ∷ t) (take-twice k j l (omega arith))

-- the entry of a packed entry's number is the entry
pub row-entry : (e : Entry) → Bounded e → entry_of_row (packed e) ≡ e
unfolding entry_of_row packed
row-entry e b =
    let k = b.kind in
    let r = b.reserved in
    let o = b.owner in
    let n = b.name in
    let m = b.number in
    let x = packed e in
    let w₀ : x % 256 ≡ e.kind = omega arith in
    let w₁ : x % 65536 ≡ e.kind + 256 * e.reserved = omega arith in
    let v₁ : (e.kind + 256 * e.reserved) / 256 ≡ e.reserved = omega arith in
    let u₂ : x / 65536 ≡ 65536 * (e.name + 65536 * e.number) + e.owner =
    ap (λ (y : ℕ). y / 65536) (omega arith) ∙ row_of {r = 65536} (65536 * (e.name + 65536 * e.number) + e.owner) (e.kind + 256 * e.reserved) (omega arith) in
    let w₂ : x / 65536 % 65536 ≡ e.owner = ap (λ (y : ℕ). y % 65536) u₂ ∙ place_of (e.name + 65536 * e.number) e.owner o in
    let u₃ : x / 4294967296 ≡ 65536 * e.number + e.name =
    ap (λ (y : ℕ). y / 4294967296) (omega arith)
    ∙ row_of {r = 4294967296} (65536 * e.number + e.name) (e.kind + 256 * e.reserved + 65536 * e.owner) (omega arith) in
    let w₃ : x / 4294967296 % 65536 ≡ e.name = ap (λ (y : ℕ). y % 65536) u₃ ∙ place_of e.number e.name n in
    let w₄ : x / 281474976710656 ≡ e.number =
    ap (λ (y : ℕ). y / 281474976710656) (omega arith)
    ∙ row_of {r = 281474976710656} e.number (e.kind + 256 * e.reserved + 65536 * e.owner + 4294967296 * e.name) (omega arith) in
    rw (w₀, w₁, v₁, w₂, w₃, w₄)

-- the bytes of a number are those of its entry
pub row-bytes : (x : ℕ) → row_bytes x ≡ entry_bytes (entry_of_row x)
unfolding row_bytes entry_bytes entry_of_row word_bytes
row-bytes x = let e : x % 65536 % 256 ≡ x % 256 = omega arith in rw e

-- ---- tables

-- one number more
pub row_more : (rows : List ℕ) (n x : ℕ) → n < length rows → entries_in (set rows n x) (n + 1) ≡ entries_in rows n ++ (entry_of_row x ∷ [])
row_more rows n x h = let e : n + 1 ≡ suc n = omega arith in rw e (ap (map entry_of_row) (take-suc-set rows n x h) ∙ map-append entry_of_row (take n rows) (x ∷ []))

-- how many entries there are
pub rows-length : (rows : List ℕ) (n : ℕ) → n ≤ length rows → length (entries_in rows n) ≡ n
rows-length rows n h = length-map (take n rows) entry_of_row ∙ length-take-le n rows h

-- fewer of them
pub rows_less : (rows : List ℕ) (n m : ℕ) → m ≤ n → entries_in rows m ≡ take m (entries_in rows n)
rows_less rows n m h =
    ap (map entry_of_row) (sym (take-twice m n rows h)) ∙ sym (take-map entry_of_row m (take n rows))

-- those after the first ones
pub rows_after : (rows : List ℕ) (m : ℕ) {es : List Entry} → map entry_of_row rows ≡ es → map entry_of_row (high_of m rows) ≡ drop m es
rows_after rows m {es} e = ap (map entry_of_row) (high_is m rows) ∙ sym (drop-map entry_of_row m rows) ∙ ap (λ (l : List Entry). drop m l) e

-- whether one of them is a name
pub any-row : (rows : List ℕ) → list_any (λ x. eqb (entry_of_row x).kind 9) rows ≡ list_any is_named (map entry_of_row rows)
any-row [] = refl
any-row (x ∷ rows) = ap (λ (b : Bool). is_named (entry_of_row x) || b) (any-row rows)

-- ---- the greatest name

-- entries that stand later have the same names
pub any-moved : (m o : ℕ) (es : List Entry) → list_any is_named (map (relocate m o) es) ≡ list_any is_named es
any-moved m o [] = refl
any-moved m o (e ∷ es) = ap (λ (b : Bool). is_named e || b) (any-moved m o es)

pub greatest-moved : (m o : ℕ) (es : List Entry) → greatest_name (map (relocate m o) es) ≡ greatest_name es
unfolding greatest_name
greatest-moved m o [] = refl
greatest-moved m o (e ∷ es) = ap (λ (g : ℕ). max (cond (is_named e) e.name 0) g) (greatest-moved m o es)

pub greatest-bounds : (es : List Entry) (n : ℕ) → 1 ≤ n → n ≤ length es → is_named (nth es n) ≡ true → (nth es n).name ≤ greatest_name es
unfolding nth greatest_name
greatest-bounds es zero lo hi q = absurd (omega arith)
greatest-bounds [] (suc i) lo hi q = absurd (omega arith)
greatest-bounds (e ∷ es) (suc zero) lo hi q = rw q (omega arith)
greatest-bounds (e ∷ es) (suc (suc i)) lo hi q = let ih = greatest-bounds es (suc i) (omega arith) (omega arith) q in omega arith

pub greatest-least : (es : List Entry) (b : ℕ) → ((n : ℕ) → 1 ≤ n → n ≤ length es → is_named (nth es n) ≡ true → (nth es n).name ≤ b) → greatest_name es ≤ b
unfolding nth greatest_name
greatest-least [] b h = omega arith
greatest-least (e ∷ es) b h =
    let ih = greatest-least es b (λ n lo hi q. later n lo hi q) in
    bool_cases (is_named e) (λ q. let one = h 1 (omega arith) (omega arith) q in rw q (omega arith)) (λ q. rw q (omega arith))
  where
    later : (n : ℕ) → 1 ≤ n → n ≤ length es → is_named (nth es n) ≡ true → (nth es n).name ≤ b
    later zero lo hi q = absurd (omega arith)
    later (suc i) lo hi q = h (suc (suc i)) (omega arith) (omega arith) q

-- it is 0 where there is none
pub greatest-none : (es : List Entry) → list_any is_named es ≡ false → greatest_name es ≡ 0
unfolding greatest_name
greatest-none [] h = refl
greatest-none (e ∷ es) h = let o = or_parts (is_named e) (list_any is_named es) h in let ih = greatest-none es o.1 in rw (o.0, ih)
