-- Laws of writing, one for each store or run of stores.
-- Assumes nothing.
use Prim.Native.Nat.{◌%◌, ◌*◌, ◌+◌, ◌-◌, ◌/◌, ◌^◌, ◌<◌, ◌≤◌, max, min, suc, zero, ℕ}
use borrow.Rule.Slice.PartMut.{mid_of, put_mid}
use lib.Dec.{eqb, leb}
use lib.ListN.{drop, drop_of_length-le, get_or, length, length-append, length-drop, length-map, length-replicate, length-take, replicate, take}
use lib.Seq.{drop-drop, sets-eq, take_all, take-suc}
use mathlib.Core.Bool.{false, true}
use mathlib.Core.List.{List, [], ◌++◌, ◌∷◌, append_assoc, append-nil, map}
use mathlib.Core.Path.{◌∙◌, ◌≡◌, ap, ap₂, refl, sym}
use Rattle.std.proofs.lemmas.Nat.{mod_below}
use native.Mathlib.Nat.{div-add-mod, mul-le-mul_left, mul-suc, mul-zero, zero-add}
use native.Mathlib.Numerals.{add-one}
use native.Mathlib.Omega.{arith}
use Rattle.std.specs.Int.{to_le_bytes, w16, w64}
use Rattle.std.proofs.lemmas.List.{drop-map, take-map}
use Rattle.base.proofs.Lists.{Holds, listed, listed-last}
use Rattle.base.proofs.StoresLaws.{holds-stored, stored-front, stored-none, stored-then}
use Rattle.base.proofs.Split.{row_of, split}
use Rattle.base.proofs.Tests.{eq-cases, gt-leb, le-leb, lt-cases, tests}
use Rattle.base.specs.Stores.{stored}
use Rattle.blocks.proofs.Format.Blocks.{length-block, length-body, length_front}
use Rattle.blocks.proofs.Format.ByteRows.{Rows, length-joined, more, none}
use Rattle.blocks.proofs.Format.Counts.{blocks-for}
use Rattle.blocks.proofs.Format.Lawful.{Lawful}
use Rattle.blocks.proofs.Format.Sequence.{all-joined, block_of, length-blocks, rows_in}
use Rattle.blocks.proofs.Format.WordBytes.{check-within, length-word, second-within}
use Rattle.blocks.specs.Encoding.{block_body, block_bytes, block_front, blocks_for, framed_bytes, encode_from, encode_rows, joined, row_bytes, row_bytes_of, framed_written}
use Rattle.blocks.specs.Frame.{Frame}
use Rattle.blocks.specs.Words.{check_of, second_of, word_bytes}

-- ---- rows

pub length-row : (w : ℕ) → w ≤ 8 → (x : ℕ) → length (row_bytes_of w x) ≡ w
unfolding row_bytes_of row_bytes word_bytes
length-row w narrow x = let e : length (row_bytes x) ≡ 8 = refl in omega (arith, length-take w (row_bytes x))

-- all 8 of them
pub whole-row : row_bytes_of 8 ≡ row_bytes
unfolding row_bytes_of row_bytes word_bytes
whole-row = refl

-- what std makes of a number
row-le : {x : ℕ} {l : List ℕ} → x < 2 ^ 64 → l ≡ to_le_bytes w64 x → l ≡ row_bytes x
unfolding row_bytes word_bytes
row-le {x} h e =
    let b₀ : x % 65536 % 256 ≡ x % 256 = omega arith in
    let b₁ : x % 65536 / 256 ≡ x / 256 % 256 = omega arith in
    let b₂ : x / 65536 % 65536 % 256 ≡ x / 65536 % 256 = omega arith in
    let b₃ : x / 65536 % 65536 / 256 ≡ x / 16777216 % 256 = omega arith in
    let b₄ : x / 4294967296 % 65536 % 256 ≡ x / 4294967296 % 256 = omega arith in
    let b₅ : x / 4294967296 % 65536 / 256 ≡ x / 1099511627776 % 256 = omega arith in
    let b₇ : x / 281474976710656 / 256 ≡ x / 72057594037927936 % 256 = omega arith in
    rw (b₀, b₁, b₂, b₃, b₄, b₅, b₇) e

pub part-le : (w : ℕ) {x : ℕ} {l : List ℕ} → x < 2 ^ 64 → l ≡ to_le_bytes w64 x → take w l ≡ row_bytes_of w x
unfolding row_bytes_of
part-le w h e = ap (take w) (row-le h e)

pub word-le : {x : ℕ} {l : List ℕ} → x < 65536 → l ≡ to_le_bytes w16 x → l ≡ word_bytes x
unfolding word_bytes
word-le {x} h e = let f : x / 256 % 256 ≡ x / 256 = omega arith in e ∙ rw f

-- a part of a slice, once it is back
pub mid-stored : (l X : List ℕ) (at k : ℕ) → length X ≡ k → at + k ≤ length l → put_mid at k l X ≡ stored l at X
unfolding stored
mid-stored l X at k e h =
    rw (drop-drop, sets-eq X l at (omega arith), e) (sym (append_assoc (take at l) X (drop (at + k) l)))

pub zeros-stored : (l : List ℕ) (at end : ℕ) {z : List ℕ} → at ≤ end → end ≤ length l → z ≡ replicate (length (mid_of at (end - at) l)) 0
    → put_mid at (end - at) l z ≡ stored l at (replicate (end - at) 0)
zeros-stored l at end a b e =
    let n : length (mid_of at (end - at) l) ≡ end - at = simp (length-take, length-drop) (omega arith) in
    rw (e, n) (mid-stored l (replicate (end - at) 0) at (end - at) (length-replicate (end - at) 0) (omega arith))

-- ---- a run of rows

joined-append : (R S : List (List ℕ)) → joined (R ++ S) ≡ joined R ++ joined S
unfolding joined
joined-append [] S = refl
joined-append (r ∷ R) S = ap (λ (l : List ℕ). r ++ l) (joined-append R S) ∙ sym (append_assoc r (joined R) (joined S))

map-append : (f : ℕ → List ℕ) (l m : List ℕ) → map f (l ++ m) ≡ map f l ++ map f m
map-append f [] m = refl
map-append f (x ∷ l) m = ap (λ (k : List (List ℕ)). f x ∷ k) (map-append f l m)

module _ (w : ℕ) (narrow : w ≤ 8) where
  -- the bytes of the first j rows
  abbrev rows_to : List ℕ → ℕ → List ℕ
  rows_to rows j = joined (map (row_bytes_of w) (take j rows))

  length-rows : (rows : List ℕ) (j : ℕ) → j ≤ length rows → length (rows_to rows j) ≡ w * j
  unfolding joined
  length-rows rows zero h = rw mul-zero refl
  length-rows [] (suc j) h = absurd (omega arith)
  length-rows (x ∷ rows) (suc j) h =
      length-append (row_bytes_of w x) (rows_to rows j) ∙ omega (arith, length-row w narrow x, length-rows rows j (omega arith), mul-suc w j)

  rows_more : (rows : List ℕ) (j : ℕ) → j < length rows → rows_to rows (suc j) ≡ rows_to rows j ++ row_bytes_of w (get_or rows j 0)
  unfolding joined
  rows_more rows j h =
      rw (take-suc rows j 0 h, map-append (row_bytes_of w) (take j rows) (get_or rows j 0 ∷ []), joined-append (map (row_bytes_of w) (take j rows)) (row_bytes_of w (get_or rows j 0) ∷ []), append-nil)

  pub rows_start : (rows l : List ℕ) (at : ℕ) → l ≡ stored l at (joined (map (row_bytes_of w) (take 0 rows)))
  unfolding joined
  rows_start rows l at = stored-none l at

  pub rows_step : (rows l : List ℕ) (at j : ℕ) {l₁ l₂ : List ℕ} → j < length rows
      → l₁ ≡ stored l at (joined (map (row_bytes_of w) (take j rows))) → l₂ ≡ stored l₁ (at + w * j) (row_bytes_of w (get_or rows j 0))
      → l₂ ≡ stored l at (joined (map (row_bytes_of w) (take (j + 1) rows)))
  rows_step rows l at j h p q =
      rw (add-one j, rows_more rows j h)
      (stored-then _ _ _ _ _ p q (ap (λ (k : ℕ). at + k) (sym (length-rows rows j (omega arith)))))

  pub rows_all : (rows l : List ℕ) (at : ℕ) {j : ℕ} {l₁ : List ℕ} → length rows ≤ j → l₁ ≡ stored l at (joined (map (row_bytes_of w) (take j rows)))
      → l₁ ≡ stored l at (joined (map (row_bytes_of w) rows))
  rows_all rows l at {j} h e = e ∙ ap (λ (r : List ℕ). stored l at (joined (map (row_bytes_of w) r))) (take_all j rows h)

  pub rows-packed : (rows : List ℕ) → Rows w (map (row_bytes_of w) rows)
  rows-packed [] = none
  rows-packed (x ∷ rows) = more (length-row w narrow x) (rows-packed rows)

-- ---- a block

-- a sum of the bytes stored so far, stored after them
sum_done : (X l : List ℕ) {l₁ l₂ : List ℕ} {c : ℕ} (sum_of : List ℕ → ℕ → ℕ)
    → ((s : List ℕ) (a : ℕ) → Holds s a X → sum_of s a ≡ sum_of X 0) → 0 + length X ≤ length l → l₁ ≡ stored l 0 X → c ≡ sum_of l₁ 0
    → l₂ ≡ stored l₁ (length X) (word_bytes c) → l₂ ≡ stored l 0 (X ++ word_bytes (sum_of X 0))
sum_done X l {c = c} sum_of within fits front e u =
    let same : c ≡ sum_of X 0 = e ∙ ap (λ (x : List ℕ). sum_of x 0) front ∙ within (stored l 0 X) 0 (holds-stored l X 0 fits) in
    stored-then _ _ _ _ _ front (rw same at u) (omega arith)

module _ {F : Frame} (L : Lawful F) where
  -- the stores of a block, up to its two sums
  body-done : (i : ℕ) (R : List (List ℕ)) (l : List ℕ) {l₁ l₂ l₃ l₄ : List ℕ} → Rows F.width R → length R ≤ F.room
      → l₁ ≡ stored l 0 (word_bytes (i + 1)) → l₂ ≡ stored l₁ 2 (word_bytes (length R)) → l₃ ≡ stored l₂ 4 (joined R)
      → l₄ ≡ stored l₃ (4 + F.width * length R) (replicate (508 - (4 + F.width * length R)) 0) → l₄ ≡ stored l 0 (block_body F i R)
  unfolding block_body
  body-done i R l {l₄ = l₄} wide small p q r s =
      let A = word_bytes (i + 1) in
      let B = word_bytes (length R) in
      let D : List ℕ = replicate (F.width * F.room - F.width * length R) 0 in
      let d : 508 - (4 + F.width * length R) ≡ F.width * F.room - F.width * length R = omega (arith, L.cells) in
      let la = length-word (i + 1) in
      let lb = length-word (length R) in
      let lc = length-joined wide in
      let all : l₄ ≡ stored l 0 (((A ++ B) ++ joined R) ++ D) =
      stored-then _ _ _ _ _
      (stored-then _ _ _ _ _ (stored-then _ _ _ _ _ p q (omega arith)) r (simp length-append (omega arith)))
      (rw d at s) (simp length-append (omega arith)) in
      all ∙ ap (stored l 0) (rw (add-one i) (simp append_assoc))

  -- the stores of a block fill it
  pub block-done : (i : ℕ) (R : List (List ℕ)) (l : List ℕ) {l₁ l₂ l₃ l₄ l₅ l₆ : List ℕ} {d c : ℕ} → Rows F.width R → length R ≤ F.room → length l ≡ 512
      → l₁ ≡ stored l 0 (word_bytes (i + 1)) → l₂ ≡ stored l₁ 2 (word_bytes (length R)) → l₃ ≡ stored l₂ 4 (joined R)
      → l₄ ≡ stored l₃ (4 + F.width * length R) (replicate (508 - (4 + F.width * length R)) 0)
      → d ≡ second_of l₄ 0 → l₅ ≡ stored l₄ 508 (word_bytes d)
      → c ≡ check_of l₅ 0 → l₆ ≡ stored l₅ 510 (word_bytes c)
      → l₆ ≡ block_bytes F i R
  unfolding block_bytes block_front
  block-done i R l {l₆ = l₆} wide small n p q r s d t c u =
      let body : ℕ = length (block_body F i R) in
      let front : ℕ = length (block_front F i R) in
      let b : body ≡ 508 = length-body F L i wide small in
      let f : front ≡ 510 = length_front F L i wide small in
      let all : l₆ ≡ stored l 0 (block_bytes F i R) = sum_done (block_front F i R) l check_of (λ x a h. check-within f h) (omega arith)
      (sum_done (block_body F i R) l second_of (λ x a h. second-within b h) (omega arith) (body-done i R l wide small p q r s) d (rw b t))
      c (rw f u) in
      let whole : length (block_bytes F i R) ≡ 512 = length-block F L i wide small in
      all ∙ stored-front l (block_bytes F i R) (omega arith) ∙ rw (drop_of_length-le l {i = length (block_bytes F i R)} (omega arith), append-nil)

  -- ---- the blocks

  -- one block more
  encode-more : (R : List (List ℕ)) (n : ℕ) → Rows F.width R → encode_from F (suc n) 0 R ≡ encode_from F n 0 R ++ block_of F R n
  encode-more R n wide =
      all-joined F L wide (suc n) ∙ ap joined (listed-last (block_of F R) 0 n) ∙ joined-append (listed (block_of F R) 0 n) (block_of F R (0 + n) ∷ [])
      ∙ ap₂ (λ (x y : List ℕ). x ++ y) (sym (all-joined F L wide n)) (unfold joined in (append-nil (block_of F R (0 + n)) ∙ ap (block_of F R) (zero-add n)))

  module _ (narrow : F.width ≤ 8) where
    -- the bytes of each row
    abbrev row : ℕ → List ℕ
    row = row_bytes_of F.width

    -- the rows of block i
    block-rows : (rows : List ℕ) (i : ℕ) {X : List ℕ} → X ≡ take (min (length rows) (F.room * i + F.room) - F.room * i) (drop (F.room * i) rows)
        → map row X ≡ rows_in F (map row rows) i
    block-rows rows i {X} e =
        let r = F.room in
        let k = F.room * i in
        let rest : length (drop k rows) ≡ length rows - k = length-drop k rows in
        let few : X ≡ take r (drop k rows) =
        e ∙ lt-cases (length rows) (k + r)
        (λ h. take_all (min (length rows) (k + r) - k) (drop k rows) (omega arith) ∙ sym (take_all r (drop k rows) (omega arith)))
        (λ h. let n : min (length rows) (k + r) - k ≡ r = omega arith in rw n) in
        ap (map row) few ∙ rw (drop-map, take-map)

    pub blocks_start : (rows l : List ℕ) → l ≡ stored l 0 (encode_from F 0 0 (map row rows))
    unfolding encode_from
    blocks_start rows l = stored-none l 0

    pub blocks_step : (rows l : List ℕ) (i : ℕ) {l₁ X b : List ℕ} → 512 * i + 512 ≤ length l₁ → length b ≡ 512
        → l₁ ≡ stored l 0 (encode_from F i 0 (map row rows)) → X ≡ take (min (length rows) (F.room * i + F.room) - F.room * i) (drop (F.room * i) rows)
        → b ≡ block_bytes F i (map row X)
        → put_mid (512 * i) 512 l₁ b ≡ stored l 0 (encode_from F (i + 1) 0 (map row rows))
    blocks_step rows l i {l₁} {X} {b} h n p e q =
        let R = map row rows in
        let wide = rows-packed F.width narrow rows in
        let q' : put_mid (512 * i) 512 l₁ b ≡ stored l₁ (512 * i) (block_of F R i) =
        mid-stored l₁ b (512 * i) 512 n h ∙ ap (stored l₁ (512 * i)) (q ∙ ap (block_bytes F i) (block-rows rows i e)) in
        rw (add-one i, encode-more R i wide)
        (stored-then _ _ _ _ _ p q' (sym (length-blocks F L wide i) ∙ sym (zero-add _)))

  -- the blocks of so many rows begin within them
  pub block-begins : {c i : ℕ} → i < blocks_for F c → F.room * i ≤ c
  block-begins {c} {i} h =
      let p = split c L.room-pos in
      let e = blocks-for F L p in
      let l : i ≤ p.full = omega arith in
      omega (arith, p.sum, mul-le-mul_left F.room l)

-- what `div_ceil` says of them
pub blocks-ceil : (F : Frame) (c : ℕ) {n : ℕ} → 0 < F.room → n ≡ max (c / F.room + min 1 (c % F.room)) 1 → n ≡ blocks_for F c
unfolding blocks_for
blocks-ceil F c pos e =
    let r = F.room in
    let d = div-add-mod c r in
    let m = mod_below c r pos in
    let up : (c + r - 1) / r ≡ c / r + min 1 (c % r) =
    eq-cases (c % r) 0
    (λ z. let s : c + r - 1 ≡ r * (c / r) + (r - 1) = omega arith in rw (s, row_of {r = r} (c / r) (r - 1) (omega arith)) (omega arith))
    (λ z. let s : c + r - 1 ≡ r * suc (c / r) + (c % r - 1) = omega (arith, mul-suc r (c / r)) in rw (s, row_of {r = r} (suc (c / r)) (c % r - 1) (omega arith)) (omega arith)) in
    e ∙ rw up (omega arith)

-- ---- the whole

module _ (F : Frame) (most : ℕ) where
  pub write-nothing : (row : ℕ → List ℕ) (out rows : List ℕ) (count : ℕ) → framed_bytes F most (length out) (length rows) count ≡ 0
      → (0 ≡ framed_bytes F most (length out) (length rows) count) × (out ≡ framed_written F row most out rows count)
  write-nothing row out rows count e = (sym e, rw e refl)

  pub too_few : (bytes given count : ℕ) → given < count → framed_bytes F most bytes given count ≡ 0
  too_few bytes given count h = rw (gt-leb h) refl

  pub too_many : (bytes given count : ℕ) → count ≤ given → most < count → framed_bytes F most bytes given count ≡ 0
  too_many bytes given count le h = rw (le-leb le, gt-leb h) refl

  pub too_short : (bytes given count : ℕ) {n : ℕ} → count ≤ given → count ≤ most → n ≡ blocks_for F count → bytes < 512 * n → framed_bytes F most bytes given count ≡ 0
  too_short bytes given count le few e h =
      let g : leb (512 * blocks_for F count) bytes ≡ false = omega tests in
      rw (le-leb le, le-leb few, g) refl

  some_block : (count : ℕ) → 0 < blocks_for F count
  unfolding blocks_for
  some_block count = omega arith

  module _ (L : Lawful F) (narrow : F.width ≤ 8) where
    pub write-all : (out rows : List ℕ) (count : ℕ) {n : ℕ} {l : List ℕ} → count ≤ length rows → count ≤ most → n ≡ blocks_for F count → 512 * n ≤ length out
        → l ≡ stored out 0 (encode_from F n 0 (map (row_bytes_of F.width) (take count rows)))
        → (512 * n ≡ framed_bytes F most (length out) (length rows) count) × (l ≡ framed_written F (row_bytes_of F.width) most out rows count)
    unfolding encode_rows
    write-all out rows count {n} {l} le few e h w =
        let R = map (row_bytes_of F.width) (take count rows) in
        let size : length R ≡ count = simp (length-map, length-take) (omega arith) in
        let long = length-blocks F L (rows-packed F.width narrow (take count rows)) n in
        let g : leb (512 * blocks_for F count) (length out) ≡ true = omega tests in
        let bytes : 512 * n ≡ framed_bytes F most (length out) (length rows) count = rw (le-leb le, le-leb few, g) (ap (λ (x : ℕ). 512 * x) e) in
        let some' : eqb (framed_bytes F most (length out) (length rows) count) 0 ≡ false = omega (tests, some_block count) in
        (bytes, w ∙ stored-front out (encode_from F n 0 R) (omega arith) ∙ rw (some', encode_rows, size, long, e))
