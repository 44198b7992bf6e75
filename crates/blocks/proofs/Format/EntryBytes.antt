-- Entries and their bytes, and the list of the entries of an input.
-- Assumes nothing.
use Rattle.std.proofs.lemmas.List.{get_or-drop, get_or-take}
use Rattle.std.proofs.Common.{◌<◌, take, drop, ap, ◌∙◌, zero-add, ◌≡◌, ℕ, zero, suc, ◌+◌, List, [], ◌∷◌, ◌++◌, map, length, get_or, refl, add-zero, arith}
use Rattle.base.proofs.Lists.{Holds, holds-left, holds-right, holds-both, holds-two, holds_as, listed, length-listed}
use Rattle.blocks.proofs.Format.ByteRows.{Rows, none, more}
use Rattle.blocks.proofs.Format.WordBytes.{Bytes, length-word, word_read, word_held}
use Rattle.blocks.specs.Entries.{entry_from, entry_bytes, entry_at, entries_from, entries_of}
use Rattle.blocks.specs.Frame.{plain, total_in}
use Rattle.blocks.specs.Words.{word_at, word_bytes}
use Rattle.blocks.specs.declared.Entry.{Entry}

-- an entry has 8 bytes
pub length-entry : (e : Entry) → length (entry_bytes e) ≡ 8
unfolding entry_bytes word_bytes
length-entry e = refl

-- the bytes of entries are rows of 8
pub rows-entries : (es : List Entry) → Rows 8 (map entry_bytes es)
rows-entries [] = none
rows-entries (e ∷ es) = more (length-entry e) (rows-entries es)

-- the entry read where the bytes of e stand is e
pub entry_read : {s : List ℕ} {a : ℕ} (e : Entry) → Holds s a (entry_bytes e) → entry_from s a ≡ e
unfolding entry_from entry_bytes
entry_read {s} {a} e h =
    let name-number = word_bytes e.name ++ word_bytes e.number in
    let after_two : Holds s (a + 2) (word_bytes e.owner ++ name-number) =
    holds-right (e.kind ∷ e.reserved ∷ []) (word_bytes e.owner ++ name-number) refl h in
    let after-four : Holds s (a + 2 + 2) name-number =
    holds-right (word_bytes e.owner) name-number (length-word e.owner) after_two in
    let k : get_or s a 0 ≡ e.kind = rw add-zero at (h.each 0 (omega arith)) in
    let r : get_or s (a + 1) 0 ≡ e.reserved = h.each 1 (omega arith) in
    let o : word_at s (a + 2) ≡ e.owner = word_read e.owner (holds-left (word_bytes e.owner) name-number after_two) in
    let n : word_at s (a + 4) ≡ e.name =
    word_read e.name (holds_as refl (omega arith) (holds-left (word_bytes e.name) (word_bytes e.number) after-four)) in
    let m : word_at s (a + 6) ≡ e.number =
    word_read e.number (holds_as refl (omega arith) (holds-right (word_bytes e.name) (word_bytes e.number) (length-word e.name) after-four)) in
    rw (k, r, o, n, m)

-- the bytes of the entry read from bytes stand there
pub entry-held : {s : List ℕ} (a : ℕ) → Bytes s → Holds s a (entry_bytes (entry_from s a))
unfolding entry_from entry_bytes
entry-held {s} a b =
    let two = get_or s a 0 ∷ get_or s (a + 1) 0 ∷ [] in
    let owner = word_bytes (word_at s (a + 2)) in
    let name = word_bytes (word_at s (a + 4)) in
    let number = word_bytes (word_at s (a + 6)) in
    holds-both two (owner ++ (name ++ number)) refl (holds-two refl refl)
    (holds-both owner (name ++ number) (length-word _) (word_held (a + 2) b refl)
    (holds-both name number (length-word _)
    (holds_as refl (omega arith) (word_held (a + 4) b refl))
    (holds_as refl (omega arith) (word_held (a + 6) b refl))))

-- an entry read where eight bytes are the same is the same
pub same_entry : (xs ys : List ℕ) (a b : ℕ) → ((k : ℕ) → k < 8 → get_or xs (a + k) 0 ≡ get_or ys (b + k) 0) → entry_from xs a ≡ entry_from ys b
unfolding entry_from word_at
same_entry xs ys a b h =
    let at_xs = λ (m n : ℕ) (e : m ≡ n). ap (λ (i : ℕ). get_or xs i 0) e in
    let at_ys = λ (m n : ℕ) (e : m ≡ n). ap (λ (i : ℕ). get_or ys i 0) e in
    let e0 : get_or xs a 0 ≡ get_or ys b 0 = rw (add-zero a, add-zero b) at (h 0 (omega arith)) in
    let e1 = h 1 (omega arith) in
    let e2 = h 2 (omega arith) in
    let e3 = at_xs (a + 2 + 1) (a + 3) (omega arith) ∙ h 3 (omega arith) ∙ at_ys (b + 3) (b + 2 + 1) (omega arith) in
    let e4 = h 4 (omega arith) in
    let e5 = at_xs (a + 4 + 1) (a + 5) (omega arith) ∙ h 5 (omega arith) ∙ at_ys (b + 5) (b + 4 + 1) (omega arith) in
    let e6 = h 6 (omega arith) in
    let e7 = at_xs (a + 6 + 1) (a + 7) (omega arith) ∙ h 7 (omega arith) ∙ at_ys (b + 7) (b + 6 + 1) (omega arith) in
    rw (e0, e1, e2, e3, e4, e5, e6, e7)

-- an entry read from its eight bytes alone
pub entry_alone : (s : List ℕ) (at : ℕ) → entry_from (take 8 (drop at s)) 0 ≡ entry_from s at
entry_alone s at =
    same_entry (take 8 (drop at s)) s 0 at (λ k h.
    ap (λ (i : ℕ). get_or (take 8 (drop at s)) i 0) (zero-add k)
    ∙ get_or-take 8 (drop at s) k 0 h ∙ get_or-drop at s k 0)

-- entries one after the other are those read at each number
pub entries_from-listed : (s : List ℕ) (n left : ℕ) → entries_from s n left ≡ listed (entry_at s) n left
unfolding entries_from listed
entries_from-listed s n zero = refl
entries_from-listed s n (suc left) = rw (entries_from-listed s (suc n) left)

-- the entries of an input are those of numbers 1 to its total
pub entries-listed : (s : List ℕ) → entries_of s ≡ listed (entry_at s) 1 (total_in plain s)
unfolding entries_of
entries-listed s = entries_from-listed s 1 (total_in plain s)

-- they are as many as the used counts say
pub length-entries : (s : List ℕ) → length (entries_of s) ≡ total_in plain s
length-entries s = rw (entries-listed s, length-listed)
