-- Rows pushed onto the table of packed entries: none, one, some and then some, and all of them at last.
-- Assumes nothing.
use Prim.Native.Nat.{◌+◌, ◌<◌, ◌≤◌, ℕ}
use lib.ListN.{drop_of_length-le, drop, get_or, length, length-append, length-map, length-set, set, take}
use lib.Seq.{drop-cons}
use mathlib.Core.List.{List, map-append, [], ◌++◌, ◌∷◌, append_assoc, append-nil, map}
use mathlib.Core.Option.{Option, none, some}
use mathlib.Core.Path.{◌∙◌, ◌≡◌, ap, refl, sym}
use native.Mathlib.Nat.{add-zero}
use native.Mathlib.Numerals.{add-one}
use native.Mathlib.Omega.{arith}
use Rattle.base.proofs.Tests.{bool_cases}
use Rattle.logic.proofs.TreeRows.FillLaws.{filled_more, filled_none, filled-one}
use Rattle.logic.specs.Filling.{Filled}
use Rattle.logic.specs.Normal.{rank}
use Rattle.std.proofs.lemmas.List.{take-set}
use Rattle.std.specs.Int.{from_bool}
use Rattle.std.specs.Prelude as code
use Rattle.std.specs.Prelude.{is_some, unwrap_or}
use Rattle.logic.specs.Place.{Atom, Kind, atom}
use Rattle.logic.specs.Tree.{Row, leaf_row}
use Rattle.normal.specs.code.Emitted.{Pushed, cell_name, cell_value, kind_rows, packed_of, row_number, rows_if, value_number}
use Rattle.passes.specs.code.Slots.{Cell, cell, is_link, same_class}

-- ---- lengths that stay

pub within : {n a b : ℕ} → b ≡ a → n ≤ a → n ≤ b
within e h = omega (arith, e, h)

pub less-now : {a b c d : ℕ} → a ≡ c → b ≡ d → c < d → a < b
less-now e f h = omega (arith, e, f, h)

-- ---- rows after rows

-- as many as there are rows
pub pushed-total : {w : ℕ} {a b : List ℕ} {i j : ℕ} (L : List (Row Atom ℕ)) → Pushed w a i L b j → j ≡ i + length L
pushed-total {i = i} L p = p.total ∙ ap (λ (n : ℕ). i + n) (length-map L row_number)

pub pushed_more : {w : ℕ} {a b c : List ℕ} {i j k : ℕ} (L M : List (Row Atom ℕ)) → Pushed w a i L b j → Pushed (length b) b j M c k → Pushed w a i (L ++ M) c k
pushed_more L M p q = rw (map-append row_number L M) (filled_more p (rw p.size at q))

-- ---- some rows done, and the rest to do

-- of the rows `whole`, those before `rest` are pushed
pub record Pushing (w : ℕ) (a : List ℕ) (i : ℕ) (whole : List (Row Atom ℕ)) (b : List ℕ) (j : ℕ) (rest : List (Row Atom ℕ)) : Type 0 where
  pub front : List (Row Atom ℕ)
  pub pushed : Pushed w a i front b j
  pub parts : whole ≡ front ++ rest

pub pushing-start : {a : List ℕ} {i : ℕ} {whole : List (Row Atom ℕ)} → Pushing (length a) a i whole a i whole
pushing-start = record { front = []; pushed = filled_none refl; parts = refl }

pub pushing-more : {w : ℕ} {a b c : List ℕ} {i j k : ℕ} {whole rest rest' : List (Row Atom ℕ)} (M : List (Row Atom ℕ))
    → Pushing w a i whole b j rest → rest ≡ M ++ rest' → Pushed (length b) b j M c k → Pushing w a i whole c k rest'
pushing-more M p e q =
    record { front = p.front ++ M; pushed = pushed_more p.front M p.pushed q; parts = p.parts ∙ rw (e, append_assoc) }

pub pushing-done : {w : ℕ} {a b : List ℕ} {i j : ℕ} {whole rest : List (Row Atom ℕ)} → Pushing w a i whole b j rest → rest ≡ [] → Pushed w a i whole b j
pushing-done p e = rw (p.parts, e, append-nil p.front) p.pushed

-- the rest has room if the whole has
pub pushing-room : {w : ℕ} {a b : List ℕ} {i j m : ℕ} {whole rest : List (Row Atom ℕ)} → Pushing w a i whole b j rest → i + length whole ≤ m → j + length rest ≤ m
pushing-room {rest = rest} p l =
    let e = pushed-total p.front p.pushed in
    let f = ap length p.parts ∙ length-append p.front rest in
    omega (arith, e, f, l)

-- ---- the rows of one cell

-- a row, as a packed entry
pub row_number_lem : (a : Kind) (o n m : ℕ) → packed_of (rank a) o n m ≡ row_number (leaf_row o (atom a n m))
unfolding packed_of
row_number_lem a o n m = refl

pub kinds-step : (a : Kind) (o : ℕ) (c : Cell) (q : List Cell) → kind_rows a o (c ∷ q) ≡ rows_if a o (cell_name c) (cell_value a c) ++ kind_rows a o q
unfolding kind_rows
kinds-step a o (cell j b n lo hi) q = bool_cases (same_class b (is_link a)) (λ z. rw z) (λ z. rw z)

-- ---- the rows of one cell, pushed

-- what is stored after the rows is of no account
stored-beyond : {rows : List ℕ} {n : ℕ} (x : ℕ) → Filled (length rows) rows n [] (set rows n x) (n + 0)
stored-beyond {rows} {n} x = record { size = length-set rows n x; total = refl; held = rw (add-zero n) (take-set rows n x ∙ sym (append-nil (take n rows))) }

-- A row that is stored counts where its cell lists a number.
pub atom-stored : (a : Kind) (o : ℕ) (c : Cell) {rows : List ℕ} {n x : ℕ} {v : code.Option ℕ} → v ≡ value_number (cell_value a c) → n < length rows
    → x ≡ packed_of (rank a) o (cell_name c) (unwrap_or v 0)
    → Pushed (length rows) rows n (rows_if a o (cell_name c) (cell_value a c)) (set rows n x) (n + from_bool (is_some v))
atom-stored a o c {rows} {n} {x} {v} e b p = rw e (listed (cell_value a c) (rw e at p))
  where
    listed : (w : Option ℕ) → x ≡ packed_of (rank a) o (cell_name c) (unwrap_or (value_number w) 0)
        → Pushed (length rows) rows n (rows_if a o (cell_name c) w) (set rows n x) (n + from_bool (is_some (value_number w)))
    listed none q = stored-beyond x
    listed (some m) q = filled-one refl b (q ∙ row_number_lem a o (cell_name c) m)

-- ---- the rows of one kind

pub cells-more : (f : ℕ → Cell) (z : List ℕ) (i : ℕ) → i < length z → map f (drop i z) ≡ f (get_or z i 0) ∷ map f (drop (i + 1) z)
cells-more f z i l = rw (add-one i, drop-cons z i 0 l)

pub cells-end : (f : ℕ → Cell) (z : List ℕ) (i : ℕ) → length z ≤ i → map f (drop i z) ≡ []
cells-end f z i l = rw (drop_of_length-le z l)

pub kinds-more : (a : Kind) (o : ℕ) (f : ℕ → Cell) (z : List ℕ) (i : ℕ) → i < length z
    → kind_rows a o (map f (drop i z)) ≡ rows_if a o (cell_name (f (get_or z i 0))) (cell_value a (f (get_or z i 0))) ++ kind_rows a o (map f (drop (i + 1) z))
kinds-more a o f z i l = ap (kind_rows a o) (cells-more f z i l) ∙ kinds-step a o _ _

pub kinds-none : (a : Kind) (o : ℕ) {q : List Cell} → q ≡ [] → kind_rows a o q ≡ []
unfolding kind_rows
kinds-none a o e = rw e

-- the first part of the rest has room if the rest has
pub part_room : (n : ℕ) {w : ℕ} {rest : List (Row Atom ℕ)} (M rest' : List (Row Atom ℕ)) → rest ≡ M ++ rest' → n + length rest ≤ w → n + length M ≤ w
part_room n M rest' e l =
    let f = ap length e ∙ length-append M rest' in
    omega (arith, f, l)

pub kinds-room : (a : Kind) (o : ℕ) (f : ℕ → Cell) (z : List ℕ) (i k : ℕ) {w : ℕ} → i < length z → k + length (kind_rows a o (map f (drop i z))) ≤ w
    → k + length (rows_if a o (cell_name (f (get_or z i 0))) (cell_value a (f (get_or z i 0)))) ≤ w
kinds-room a o f z i k l h =
    part_room k (rows_if a o (cell_name (f (get_or z i 0))) (cell_value a (f (get_or z i 0)))) (kind_rows a o (map f (drop (i + 1) z))) (kinds-more a o f z i l) h
