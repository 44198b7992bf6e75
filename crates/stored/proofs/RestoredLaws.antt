-- The rows of stored entries as a description's, one after the other.
-- Assumes nothing.
use Rattle.std.proofs.Common.{◌≡◌, ℕ, suc, ◌+◌, ◌-◌, ◌*◌, ◌/◌, ◌%◌, ◌<◌, ◌≤◌, List, [], ◌∷◌, ◌++◌, map, length, get_or, set, sym, ap, ◌∙◌, arith}
use Rattle.base.proofs.Lists.{get_d-listed, length-listed, listed, listed-last, map-listed}
use Rattle.base.proofs.StoresLaws.{stored-then, stored_one}
use Rattle.base.specs.Stores.{stored}
use Rattle.blocks.specs.Entries.{packed}
use Rattle.blocks.specs.Frame.{entry_pos, stored_frame, total_in}
use Rattle.blocks.specs.declared.Entry.{Entry}
use Rattle.stored.proofs.WalkingLaws.{Kept, owner-nearest}
use Rattle.stored.specs.Stored.{owned_entry, stored_at, stored_entries, stored_nth, zero_stored}
use Rattle.stored.specs.Walking.{nearest, restored, stored_owner}
use Rattle.stored.specs.declared.StoredEntry.{StoredEntry}

-- entry n of a description that stored entries are, as a number
abbrev pub row_packed : List StoredEntry → ℕ → ℕ
row_packed xs n = packed (owned_entry (stored_owner xs n) (stored_nth xs n))

pub rows-packed : (xs : List StoredEntry) → map packed (restored xs) ≡ listed (row_packed xs) 1 (length xs)
unfolding restored
rows-packed xs = map-listed packed (λ n. owned_entry (stored_owner xs n) (stored_nth xs n)) 1 (length xs)

-- one row more, behind the others
pub rows-more : (f : ℕ → ℕ) (start : List ℕ) (k x : ℕ) {rows rows' : List ℕ} → rows ≡ stored start 0 (listed f 1 k) → rows' ≡ set rows k x → x ≡ f (suc k)
    → rows' ≡ stored start 0 (listed f 1 (k + 1))
rows-more f start k x {rows} {rows'} e s v =
    let one : rows' ≡ stored rows k (x ∷ []) = s ∙ stored_one rows k x in
    let l : listed f 1 (k + 1) ≡ listed f 1 k ++ (x ∷ []) = ap (listed f 1) (omega arith) ∙ listed-last f 1 k ∙ rw v (ap (λ (m : ℕ). listed f 1 k ++ (f m ∷ [])) (omega arith)) in
    stored-then start (listed f 1 k) (x ∷ []) 0 k e one (omega (arith, length-listed f 1 k)) ∙ ap (stored start 0) (sym l)

-- entry n of the entries of an input
pub nth-stored : (s : List ℕ) (n : ℕ) → n < total_in stored_frame s → stored_nth (stored_entries s) (suc n) ≡ stored_at s (n + 1)
unfolding stored_nth stored_entries
nth-stored s n h = get_d-listed (stored_at s) 1 (total_in stored_frame s) zero_stored n h ∙ ap (stored_at s) (omega arith)

pub length-stored-entries : (s : List ℕ) → length (stored_entries s) ≡ total_in stored_frame s
unfolding stored_entries
length-stored-entries s = length-listed (stored_at s) 1 (total_in stored_frame s)

-- the bytes of an entry of blocks that are there
pub entry-within : (s : List ℕ) (total n : ℕ) → 512 * ((total + 83) / 84) ≤ length s → n < total → entry_pos stored_frame (n + 1) + 6 ≤ length s
unfolding entry_pos
entry-within s total n h l =
    let e : n + 1 - 1 ≡ n = omega arith in
    let a : n / 84 < (total + 83) / 84 = omega arith in
    let b : n % 84 ≤ 83 = omega arith in
    rw (entry_pos, e) (omega arith)

-- the entry that a turn sees
pub seen : (s : List ℕ) (total before : ℕ) → total ≡ length (stored_entries s) → before < total → {x : StoredEntry} → x ≡ stored_at s (before + 1)
    → x ≡ stored_nth (stored_entries s) (suc before)
seen s total before e h a = a ∙ sym (nth-stored s before (omega (arith, length-stored-entries s)))

-- its row
pub row-is : (xs : List StoredEntry) (last : List ℕ) (most n : ℕ) → Kept xs last most n → {x : StoredEntry} → x ≡ stored_nth xs (suc n) → x.depth ≤ most
    → {e : Entry} {i : ℕ} → e ≡ owned_entry (get_or last i 0) x → i ≡ x.depth → packed e ≡ row_packed xs (suc n)
row-is xs last most n K {x} at le {e} {i} f z =
    let owner : get_or last i 0 ≡ stored_owner xs (suc n) =
    ap (λ (j : ℕ). get_or last j 0) z ∙ K.owner x.depth le ∙ ap (λ (y : StoredEntry). nearest xs y.depth n) at ∙ sym (owner-nearest xs n) in
    ap packed (f ∙ ap (λ (o : ℕ). owned_entry o x) owner ∙ ap (owned_entry (stored_owner xs (suc n))) at)
