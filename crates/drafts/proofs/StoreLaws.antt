-- What the loops of the code store: words, packed entries, and what is written of them.
-- Assumes nothing.
use Rattle.std.proofs.Common.{◌≡◌, ℕ, zero, suc, ◌+◌, ◌*◌, ◌≤◌, ◌<◌, add-one, List, [], ◌∷◌, ◌++◌, drop, get_or, length, map, set, take, refl, ap, ◌∙◌, arith}
use lib.ListN.{length-map}
use lib.Seq.{length-take-le, take_all, take_at}
use Rattle.base.proofs.StoresLaws.{length-stored, stored-front, stored-none, stored-then, stored_one}
use Rattle.base.proofs.Tests.{le-leb, leb-self}
use Rattle.base.specs.Stores.{stored}
use Rattle.blocks.proofs.RoundTrip.Accepting.{written-encodes}
use Rattle.blocks.proofs.Refusing.Bounds.{AllBounded}
use Rattle.blocks.specs.Encoding.{blocks_for, bytes_written, encode, joined, written}
use Rattle.blocks.specs.Entries.{Bounded, entry_bytes, entry_from, packed, zero_entry}
use Rattle.blocks.specs.Frame.{plain}
use Rattle.blocks.specs.Words.{word_at, word_bytes}
use Rattle.blocks.specs.declared.Entry.{Entry}
use Rattle.drafts.specs.Memory.{entries_at}

-- ---- words in a row

words-more : (ws : List ℕ) (j : ℕ) → j < length ws
    → joined (map word_bytes (take (suc j) ws)) ≡ joined (map word_bytes (take j ws)) ++ word_bytes (get_or ws j 0)
unfolding joined word_bytes
words-more [] j h = absurd (omega arith)
words-more (w ∷ ws) zero h = refl
words-more (w ∷ ws) (suc j) h = ap (λ (l : List ℕ). word_bytes w ++ l) (words-more ws j (omega arith))

words-length : (ws : List ℕ) (j : ℕ) → j ≤ length ws → length (joined (map word_bytes (take j ws))) ≡ 2 * j
unfolding joined word_bytes
words-length ws zero h = refl
words-length [] (suc j) h = absurd (omega arith)
words-length (w ∷ ws) (suc j) h = let r = words-length ws j (omega arith) in omega arith

pub words-start : (ws l : List ℕ) → l ≡ stored l 0 (joined (map word_bytes (take 0 ws)))
unfolding joined
words-start ws l = stored-none l 0

pub words-step : (ws l : List ℕ) (j : ℕ) {l₁ l₂ : List ℕ} → j < length ws → l₁ ≡ stored l 0 (joined (map word_bytes (take j ws)))
    → l₂ ≡ stored l₁ (2 * j) (word_bytes (get_or ws j 0)) → l₂ ≡ stored l 0 (joined (map word_bytes (take (j + 1) ws)))
words-step ws l j h p q =
    let n = words-length ws j (omega arith) in
    rw (add-one j, words-more ws j h)
    (stored-then l (joined (map word_bytes (take j ws))) (word_bytes (get_or ws j 0)) 0 (2 * j) p q (omega arith))

pub words-all : (ws l : List ℕ) {j : ℕ} {l₁ : List ℕ} → length ws ≤ j → l₁ ≡ stored l 0 (joined (map word_bytes (take j ws)))
    → l₁ ≡ stored l 0 (joined (map word_bytes ws))
words-all ws l {j} h e = e ∙ ap (λ (r : List ℕ). stored l 0 (joined (map word_bytes r))) (take_all j ws h)

-- ---- packed entries in a row

abbrev pub row_of : List ℕ → ℕ
row_of b = packed (entry_from b 0)

rows-more : (bs : List (List ℕ)) (j : ℕ) → j < length bs → map row_of (take (suc j) bs) ≡ map row_of (take j bs) ++ (row_of (get_or bs j []) ∷ [])
rows-more [] j h = absurd (omega arith)
rows-more (b ∷ bs) zero h = refl
rows-more (b ∷ bs) (suc j) h = ap (λ (l : List ℕ). row_of b ∷ l) (rows-more bs j (omega arith))

pub rows-step : (bs : List (List ℕ)) (l : List ℕ) (j : ℕ) {l₁ l₂ : List ℕ} {x : ℕ} → j < length bs → l₁ ≡ stored l 0 (map row_of (take j bs))
    → x ≡ row_of (get_or bs j []) → l₂ ≡ set l₁ j x → l₂ ≡ stored l 0 (map row_of (take (j + 1) bs))
rows-step bs l j {l₁} h p e q =
    let n : length (map row_of (take j bs)) ≡ j = length-map (take j bs) row_of ∙ length-take-le j bs (omega arith) in
    rw (add-one j, rows-more bs j h)
    (stored-then l (map row_of (take j bs)) (row_of (get_or bs j []) ∷ []) 0 j p (q ∙ ap (set l₁ j) e ∙ stored_one l₁ j (row_of (get_or bs j []))) (omega arith))

pub rows-all : (bs : List (List ℕ)) (l : List ℕ) {j : ℕ} {l₁ : List ℕ} → length bs ≤ j → l₁ ≡ stored l 0 (map row_of (take j bs))
    → l₁ ≡ stored l 0 (map row_of bs)
rows-all bs l {j} h e = e ∙ ap (λ (r : List (List ℕ)). stored l 0 (map row_of r)) (take_all j bs h)

-- ---- and what is written of them

-- entries read from bytes fit their fields
bounded-from : (m : List ℕ) (at : ℕ) → ((k : ℕ) → get_or m k 0 < 256) → Bounded (entry_from m at)
unfolding entry_from word_at
bounded-from m at small =
    let b = small (at + 2) in
    let c = small (at + 2 + 1) in
    let d = small (at + 4) in
    let e = small (at + 4 + 1) in
    let f = small (at + 6) in
    let g = small (at + 6 + 1) in
    record { kind = small at; reserved = small (at + 1); owner = omega arith; name = omega arith; number = omega arith }

each-bounded : (m : List ℕ) → ((k : ℕ) → get_or m k 0 < 256) → (n at j : ℕ) → j < length (entries_at m at n)
    → Bounded (get_or (entries_at m at n) j zero_entry)
unfolding entries_at
each-bounded m small zero at j h = absurd (omega arith)
each-bounded m small (suc n) at zero h = bounded-from m at small
each-bounded m small (suc n) at (suc j) h = each-bounded m small n (at + 8) j (omega arith)

pub bounded-entries : (m : List ℕ) (at n : ℕ) → ((k : ℕ) → get_or m k 0 < 256) → AllBounded (entries_at m at n)
bounded-entries m at n small = record { each = λ j h. each-bounded m small n at j h }

-- the first rows of a table are the packed entries: these are written
pub rows-written : (out table : List ℕ) (es : List Entry) → AllBounded es → length es ≤ 1008 → length es ≤ length table
    → 512 * blocks_for plain (length es) ≤ length out
    → written out (stored table 0 (map packed es)) (length es) ≡ encode es ++ drop (512 * blocks_for plain (length es)) out
unfolding written bytes_written
rows-written out table es b few room fits =
    let n = length-map es packed in
    let l = length-stored table (map packed es) 0 in
    let front : take (length es) (stored table 0 (map packed es)) ≡ map packed es =
    ap (take (length es)) (stored-front table (map packed es) (omega arith))
    ∙ take_at (map packed es) (drop (length (map packed es)) table) (length es) (omega arith) in
    let whole : take (length es) (map packed es) ≡ map packed es = take_all (length es) (map packed es) (omega arith) in
    let long : length es ≤ length (stored table 0 (map packed es)) = omega arith in
    let same : written out (stored table 0 (map packed es)) (length es) ≡ written out (map packed es) (length es) =
    rw (written, written, bytes_written, bytes_written, front, whole, n, le-leb long, leb-self (length es)) in
    same ∙ written-encodes out es b (omega arith) fits

-- ---- an entry

pub entry-stored : (l : List ℕ) (at : ℕ) (e : Entry) {l₁ l₂ l₃ l₄ : List ℕ} → l₁ ≡ stored l at (e.kind ∷ e.reserved ∷ []) → l₂ ≡ stored l₁ (at + 2) (word_bytes e.owner)
    → l₃ ≡ stored l₂ (at + 4) (word_bytes e.name) → l₄ ≡ stored l₃ (at + 6) (word_bytes e.number) → l₄ ≡ stored l at (entry_bytes e)
unfolding entry_bytes word_bytes
entry-stored l at e p q r s =
    let two = e.kind ∷ e.reserved ∷ [] in
    let four = two ++ word_bytes e.owner in
    let six = four ++ word_bytes e.name in
    stored-then l six (word_bytes e.number) at (at + 6)
    (stored-then l four (word_bytes e.name) at (at + 4) (stored-then l two (word_bytes e.owner) at (at + 2) p q (omega arith)) r (omega arith))
    s (omega arith)
