-- Stored entries and their bytes: as numbers, read back, and all of them one after the other.
-- Assumes nothing.
use Rattle.std.proofs.Common.{◌≡◌, ℕ, zero, suc, ◌+◌, ◌-◌, ◌<◌, ◌≤◌, List, [], ◌∷◌, ◌++◌, map, length, take, get_or, refl, sym, ap, ◌∙◌, add-zero, arith}
use lib.ListN.{length-map}
use mathlib.Core.Path.{fun_ext}
use Rattle.base.proofs.Lists.{Holds, get_d-map-in, holds-both, holds-left, holds-right, holds-two, holds_as, listed, listed-eq, map-listed, part-eq}
use Rattle.blocks.proofs.Format.ByteRows.{Rows, more, none}
use Rattle.blocks.proofs.Format.Lawful.{stored-lawful}
use Rattle.blocks.proofs.Format.WordBytes.{Bytes, length-word, word_held, word_read}
use Rattle.blocks.proofs.RoundTrip.Accepting.{packed-bytes}
use Rattle.blocks.proofs.RoundTrip.Decoding.{row_read, total-rows}
use Rattle.blocks.proofs.RoundTrip.Faithful.{row_at, rows_of}
use Rattle.blocks.specs.Encoding.{row_bytes_of}
use Rattle.blocks.specs.Entries.{entry_bytes, packed}
use Rattle.blocks.specs.Frame.{entry_pos, stored_frame, total_in}
use Rattle.blocks.specs.Words.{word_at, word_bytes}
use Rattle.blocks.specs.declared.Entry.{Entry}
use Rattle.stored.specs.Stored.{encode_stored, stored_at, stored_bytes, stored_entries, stored_from, stored_nth, stored_packed, zero_stored}
use Rattle.stored.specs.declared.StoredEntry.{StoredEntry}

-- ---- each of a list

abbrev pub AllIn : {A : Type 0} → (A → Type 0) → List A → Type 0
AllIn P [] = Unit {0}
AllIn P (x ∷ xs) = P x × AllIn P xs

pub all-nth : (P : StoredEntry → Type 0) (xs : List StoredEntry) → AllIn P xs → (n : ℕ) → 1 ≤ n → n ≤ length xs → P (stored_nth xs n)
unfolding stored_nth
all-nth P xs h zero lo hi = absurd (omega arith)
all-nth P [] h (suc k) lo hi = absurd (omega arith)
all-nth P (x ∷ xs) h (suc zero) lo hi = h.0
all-nth P (x ∷ xs) h (suc (suc k)) lo hi = all-nth P xs h.1 (suc k) (omega arith) (omega arith)

pub nth-all : (P : StoredEntry → Type 0) (xs : List StoredEntry) → ((n : ℕ) → 1 ≤ n → n ≤ length xs → P (stored_nth xs n)) → AllIn P xs
unfolding stored_nth
nth-all P [] h = tt
nth-all P (x ∷ xs) h = (h 1 (omega arith) (omega arith), nth-all P xs (λ n lo hi. skip n lo (h (suc n) (omega arith) (omega arith))))
  where
    skip : (n : ℕ) → 1 ≤ n → P (stored_nth (x ∷ xs) (suc n)) → P (stored_nth xs n)
    skip zero lo p = absurd (omega arith)
    skip (suc k) lo p = p

pub all-both : {A : Type 0} (P Q : A → Type 0) (xs : List A) → AllIn P xs → AllIn Q xs → AllIn (λ x. P x × Q x) xs
all-both P Q [] p q = tt
all-both P Q (x ∷ xs) p q = ((p.0, q.0), all-both P Q xs p.1 q.1)

-- ---- numbers

-- each field fits its bytes
pub record StoredBounded (x : StoredEntry) : Type 0 where
  pub kind : x.kind < 256
  pub depth : x.depth < 256
  pub name : x.name < 65536
  pub number : x.number < 65536

-- the entry of 8 bytes of which it is the first 6
abbrev longer : StoredEntry → Entry
longer x = record { kind = x.kind; reserved = x.depth; owner = x.name; name = x.number; number = 0 }

packed-longer : (x : StoredEntry) → stored_packed x ≡ packed (longer x)
unfolding stored_packed packed
packed-longer x = omega arith

front-six : (x : StoredEntry) → take 6 (entry_bytes (longer x)) ≡ stored_bytes x
unfolding entry_bytes stored_bytes word_bytes
front-six x = refl

-- the low 6 bytes of its number are its bytes
pub bytes-packed : (x : StoredEntry) → StoredBounded x → row_bytes_of 6 (stored_packed x) ≡ stored_bytes x
unfolding row_bytes_of
bytes-packed x b =
    rw (packed-longer x) (ap (take 6) (packed-bytes (longer x) (record { kind = b.kind; reserved = b.depth; owner = b.name; name = b.number; number = omega arith }))
    ∙ front-six x)

pub rows-bytes : (xs : List StoredEntry) → AllIn StoredBounded xs → map (row_bytes_of 6) (map stored_packed xs) ≡ map stored_bytes xs
rows-bytes [] h = refl
rows-bytes (x ∷ xs) h = rw (bytes-packed x h.0, rows-bytes xs h.1)

-- ---- bytes

pub length-stored-bytes : (x : StoredEntry) → length (stored_bytes x) ≡ 6
unfolding stored_bytes word_bytes
length-stored-bytes x = refl

pub rows-wide : (xs : List StoredEntry) → Rows 6 (map stored_bytes xs)
rows-wide [] = none
rows-wide (x ∷ xs) = more (length-stored-bytes x) (rows-wide xs)

-- the entry read where the bytes of x stand is x
stored-read : {s : List ℕ} {a : ℕ} (x : StoredEntry) → Holds s a (stored_bytes x) → stored_from s a ≡ x
unfolding stored_from stored_bytes
stored-read {s} {a} x h =
    let after_two : Holds s (a + 2) (word_bytes x.name ++ word_bytes x.number) =
    holds-right (x.kind ∷ x.depth ∷ []) (word_bytes x.name ++ word_bytes x.number) refl h in
    let k : get_or s a 0 ≡ x.kind = rw add-zero at (h.each 0 (omega arith)) in
    let d : get_or s (a + 1) 0 ≡ x.depth = h.each 1 (omega arith) in
    let n : word_at s (a + 2) ≡ x.name = word_read x.name (holds-left (word_bytes x.name) (word_bytes x.number) after_two) in
    let m : word_at s (a + 4) ≡ x.number =
    word_read x.number (holds_as refl (omega arith) (holds-right (word_bytes x.name) (word_bytes x.number) (length-word x.name) after_two)) in
    rw (k, d, n, m)

-- the bytes of the entry read from bytes stand there
stored-held : {s : List ℕ} (a : ℕ) → Bytes s → Holds s a (stored_bytes (stored_from s a))
unfolding stored_from stored_bytes
stored-held {s} a b =
    let two = get_or s a 0 ∷ get_or s (a + 1) 0 ∷ [] in
    let name = word_bytes (word_at s (a + 2)) in
    let number = word_bytes (word_at s (a + 4)) in
    holds-both two (name ++ number) refl (holds-two refl refl)
    (holds-both name number (length-word _) (word_held (a + 2) b refl) (holds_as refl (omega arith) (word_held (a + 4) b refl)))

-- ---- an input and its entries

-- its rows are the bytes of its entries
pub rows-entries : (s : List ℕ) → Bytes s → map stored_bytes (stored_entries s) ≡ rows_of stored_frame s
unfolding stored_entries stored_at
rows-entries s b = map-listed stored_bytes (stored_at s) 1 (total_in stored_frame s) ∙ ap (λ (f : ℕ → List ℕ). listed f 1 (total_in stored_frame s)) (fun_ext row)
  where
    row : (n : ℕ) → stored_bytes (stored_at s n) ≡ row_at stored_frame s n
    row n = sym (rw (length-stored-bytes (stored_from s (entry_pos stored_frame n))) at (part-eq (stored-held (entry_pos stored_frame n) b)))

-- the entries of an encoding are those encoded
pub decode-stored : (xs : List StoredEntry) → stored_entries (encode_stored xs) ≡ xs
unfolding stored_entries encode_stored stored_at
decode-stored xs =
    rw (total-rows stored_frame stored-lawful (rows-wide xs), length-map) (listed-eq (stored_at (encode_stored xs)) 1 zero_stored xs each)
  where
    each : (k : ℕ) → k < length xs → stored_at (encode_stored xs) (1 + k) ≡ get_or xs k zero_stored
    each k h =
        let e : 1 + k - 1 ≡ k = omega arith in
        let l = length-map xs stored_bytes in
        stored-read (get_or xs k zero_stored)
        (holds_as (rw e (get_d-map-in stored_bytes xs zero_stored [] k h)) refl
        (row_read stored_frame stored-lawful (rows-wide xs) (1 + k) (omega arith) (omega arith)))

-- the entries of bytes fit theirs
pub entries-bounded : (s : List ℕ) → Bytes s → (n : ℕ) → StoredBounded (stored_at s n)
unfolding stored_at stored_from word_at
entries-bounded s b n =
    let a = entry_pos stored_frame n in
    record {
      kind = b.small a;
      depth = b.small (a + 1);
      name = omega (arith, b.small (a + 2), b.small (a + 2 + 1));
      number = omega (arith, b.small (a + 4), b.small (a + 4 + 1));
    }
