-- Owners by depth, and rows: what is read from stored entries in walking order is their tree, and what is written
-- from it is these again.
-- Assumes nothing.
use Rattle.std.proofs.Common.{◌≡◌, ◌≢◌, ℕ, zero, suc, ◌+◌, ◌<◌, ◌≤◌, true, cond, leb, List, [], ◌∷◌, ◌++◌, append_assoc, map, length, refl, sym, ap, subst, ◌∙◌, arith}
use native.Mathlib.Numerals.{one-add}
use Rattle.base.proofs.Lists.{listed, listed-eq, map-listed}
use Rattle.base.proofs.Tests.{eq-cases, eq-eqb, gt-leb, le-leb, leb-le, lt-cases, ne_eqb}
use Rattle.logic.specs.Tree.{Row, Tree, end, leaf, leaf_row, node, node_row, tree}
use Rattle.blocks.specs.declared.Entry.{Entry}
use Rattle.stored.proofs.ReadWalked.{append-none, read-walked, rows_by}
use Rattle.stored.proofs.TreeLaws.{mark_of, marked, walk-marks}
use Rattle.stored.proofs.WalkedAgain.{Fitting, walked-again}
use Rattle.stored.proofs.WalkingLaws.{Open, at-one-look, nearest-before, nearest-here, open-more, open-start, owner-nearest}
use Rattle.stored.specs.Stored.{owned_entry, stored_nth, zero_stored}
use Rattle.stored.specs.Walked.{Mark, entries_under, entry_row, leaf_at, mark_stored, node_at, walk_of, walked}
use Rattle.stored.specs.Walking.{nearest, restored, stored_owner, walking_ok}
use Rattle.stored.specs.declared.StoredEntry.{StoredEntry}

-- the entries of a list are those of its numbers
pub stored-listed : (xs : List StoredEntry) → listed (stored_nth xs) 1 (length xs) ≡ xs
unfolding stored_nth
stored-listed xs = listed-eq (stored_nth xs) 1 zero_stored xs (λ k h. rw one-add refl)

module _ (xs : List StoredEntry) where
  -- entry n as a mark, and of the description that it is
  unfoldable mark : ℕ → Mark Entry Entry
  mark n = mark_of (stored_nth xs n)

  unfoldable row : ℕ → Row Entry Entry
  row n = entry_row (owned_entry (stored_owner xs n) (stored_nth xs n))

  mark-every : (n : ℕ) → (stored_nth xs n).kind ≡ 5 → mark n ≡ node_at (stored_nth xs n).depth (owned_entry 0 (stored_nth xs n))
  unfolding mark
  mark-every n k = rw (mark, eq-eqb k) refl

  mark-leaf : (n : ℕ) → (stored_nth xs n).kind ≢ 5 → mark n ≡ leaf_at (stored_nth xs n).depth (owned_entry 0 (stored_nth xs n))
  unfolding mark
  mark-leaf n k = rw (mark, ne_eqb k) refl

  row-every : (n : ℕ) → (stored_nth xs n).kind ≡ 5 → row n ≡ node_row (stored_owner xs n) (owned_entry 0 (stored_nth xs n))
  unfolding row entry_row
  row-every n k = rw (row, entry_row, eq-eqb k) refl

  row-leaf : (n : ℕ) → (stored_nth xs n).kind ≢ 5 → row n ≡ leaf_row (stored_owner xs n) (owned_entry 0 (stored_nth xs n))
  unfolding row entry_row
  row-leaf n k = rw (row, entry_row, ne_eqb k) refl

  -- n entries are passed, number 15 applies to none of the `left` that follow, and `last` has the owner of each depth
  -- that may come next
  rows-same : (left n most : ℕ) (last : ℕ → ℕ) → Open xs most n → ((d : ℕ) → d ≤ most → last d ≡ nearest xs d n)
      → ((k : ℕ) → n < k → k ≤ n + left → walking_ok xs k ≡ true) → listed row (suc n) left ≡ rows_by (suc n) last (listed mark (suc n) left)
  unfolding listed rows_by
  rows-same zero n most last O held ok = refl
  rows-same (suc left) n most last O held ok =
      let x : StoredEntry = stored_nth xs (suc n) in
      let le : x.depth ≤ most = leb-le (sym (at-one-look xs most n O) ∙ ok (suc n) (omega arith) (omega arith)) in
      let own : stored_owner xs (suc n) ≡ last x.depth = owner-nearest xs n ∙ sym (held x.depth le) in
      eq-cases x.kind 5
      (λ k.
      let O' : Open xs (suc x.depth) (suc n) = rw (eq-eqb k) at (open-more xs most n O le) in
      let r = rows-same left (suc n) (suc x.depth) (λ j. cond (leb j x.depth) (last j) (suc n)) O'
      (λ j h. lt-cases x.depth j
      (λ l. let e : j ≡ suc x.depth = omega arith in rw (gt-leb l) (sym (nearest-here xs j n l)))
      (λ l. rw (le-leb l) (held j (omega arith) ∙ sym (nearest-before xs j n l))))
      (λ j a b. ok j (omega arith) (omega arith)) in
      rw (row-every (suc n) k, mark-every (suc n) k, own) (ap (λ (l : List (Row Entry Entry)). node_row (last x.depth) (owned_entry 0 x) ∷ l) r))
      (λ k.
      let O' : Open xs x.depth (suc n) = rw (ne_eqb k) at (open-more xs most n O le) in
      let r = rows-same left (suc n) x.depth last O' (λ j h. held j (omega arith) ∙ sym (nearest-before xs j n h)) (λ j a b. ok j (omega arith) (omega arith)) in
      rw (row-leaf (suc n) k, mark-leaf (suc n) k, own) (ap (λ (l : List (Row Entry Entry)). leaf_row (last x.depth) (owned_entry 0 x) ∷ l) r))

  -- then depths fit, and where they fit number 15 applies to none
  fits-from : (left n most : ℕ) → Open xs most n → ((k : ℕ) → n < k → k ≤ n + left → walking_ok xs k ≡ true) → Fitting most (listed mark (suc n) left)
  unfolding listed Fitting
  fits-from zero n most O ok = tt
  fits-from (suc left) n most O ok =
      let x : StoredEntry = stored_nth xs (suc n) in
      let le : x.depth ≤ most = leb-le (sym (at-one-look xs most n O) ∙ ok (suc n) (omega arith) (omega arith)) in
      eq-cases x.kind 5
      (λ k.
      let O' : Open xs (suc x.depth) (suc n) = rw (eq-eqb k) at (open-more xs most n O le) in
      rw (mark-every (suc n) k) (le, fits-from left (suc n) (suc x.depth) O' (λ j a b. ok j (omega arith) (omega arith))))
      (λ k.
      let O' : Open xs x.depth (suc n) = rw (ne_eqb k) at (open-more xs most n O le) in
      rw (mark-leaf (suc n) k) (le, fits-from left (suc n) x.depth O' (λ j a b. ok j (omega arith) (omega arith))))

  ok-from : (left n most : ℕ) → Open xs most n → Fitting most (listed mark (suc n) left) → (k : ℕ) → n < k → k ≤ n + left → walking_ok xs k ≡ true
  unfolding listed Fitting
  ok-from zero n most O f k lo hi = absurd (omega arith)
  ok-from (suc left) n most O f k lo hi =
      let x : StoredEntry = stored_nth xs (suc n) in
      eq-cases x.kind 5
      (λ z.
      let f' = rw (mark-every (suc n) z) at f in
      let O' : Open xs (suc x.depth) (suc n) = rw (eq-eqb z) at (open-more xs most n O f'.0) in
      eq-cases k (suc n)
      (λ q. rw q (at-one-look xs most n O ∙ le-leb f'.0))
      (λ q. ok-from left (suc n) (suc x.depth) O' f'.1 k (omega arith) (omega arith)))
      (λ z.
      let f' = rw (mark-leaf (suc n) z) at f in
      let O' : Open xs x.depth (suc n) = rw (ne_eqb z) at (open-more xs most n O f'.0) in
      eq-cases k (suc n)
      (λ q. rw q (at-one-look xs most n O ∙ le-leb f'.0))
      (λ q. ok-from left (suc n) x.depth O' f'.1 k (omega arith) (omega arith)))

  -- number 15 applies to no entry
  abbrev pub AllWalk : Type 0
  AllWalk = (k : ℕ) → 1 ≤ k → k ≤ length xs → walking_ok xs k ≡ true

  marks-listed : map mark_of xs ≡ listed mark 1 (length xs)
  unfolding mark
  marks-listed = ap (map mark_of) (sym (stored-listed xs)) ∙ map-listed mark_of (stored_nth xs) 1 (length xs)

  rows-listed : map entry_row (restored xs) ≡ listed row 1 (length xs)
  unfolding restored row
  rows-listed = map-listed entry_row (λ n. owned_entry (stored_owner xs n) (stored_nth xs n)) 1 (length xs)

  -- it has the rows of its marks by depth
  pub rows-by-depth : AllWalk → map entry_row (restored xs) ≡ rows_by 1 (λ j. 0) (map mark_of xs)
  unfolding nearest
  rows-by-depth ok =
      rows-listed ∙ rows-same (length xs) 0 0 (λ j. 0) (open-start xs) (λ d h. refl) (λ k a b. ok k a (omega arith)) ∙ ap (rows_by 1 (λ j. 0)) (sym marks-listed)

  pub walk-fits : AllWalk → Fitting 0 (map mark_of xs)
  walk-fits ok = rw marks-listed (fits-from (length xs) 0 0 (open-start xs) (λ k a b. ok k a (omega arith)))

  pub fits-walk : Fitting 0 (map mark_of xs) → AllWalk
  fits-walk f k lo hi = ok-from (length xs) 0 0 (open-start xs) (rw marks-listed at f) k lo (omega arith)

  marks-back : map mark_stored (map mark_of xs) ≡ xs
  marks-back = each xs
    where
      each : (ys : List StoredEntry) → map mark_stored (map mark_of ys) ≡ ys
      each [] = refl
      each (y ∷ ys) = rw (marked y, each ys) refl

  -- from the stored form and back: the same entries
  pub walk-restored : AllWalk → walk_of (restored xs) ≡ xs
  unfolding walk_of entries_under
  walk-restored ok =
      ap (λ (rs : List (Row Entry Entry)). map mark_stored (walked 0 (tree 1 rs 0))) (rows-by-depth ok)
      ∙ ap (map mark_stored) (walked-again (map mark_of xs) (walk-fits ok)) ∙ marks-back

-- ---- to the stored form and back

-- depths in walking order fit
walked-fits : {A B : Type 0} (m d : ℕ) (t : Tree A B) (ys : List (Mark A B)) → d ≤ m → ((m' : ℕ) → d ≤ m' → Fitting m' ys) → Fitting m (walked d t ++ ys)
unfolding walked Fitting
walked-fits m d end ys le f = f m le
walked-fits m d (leaf a r) ys le f = (le, walked-fits d d r ys (omega arith) f)
walked-fits {A} {B} m d (node b s r) ys le f =
    let split : walked (suc d) s ++ (walked d r ++ ys) ≡ (walked (suc d) s ++ walked d r) ++ ys = rw append_assoc in
    (le, subst (λ (l : List (Mark A B)). Fitting (suc d) l) split (walked-fits (suc d) (suc d) s (walked d r ++ ys) (omega arith) (λ m' h. walked-fits m' d r ys (omega arith) f)))

pub walk-all : (es : List Entry) → AllWalk (walk_of es)
unfolding Fitting
walk-all es =
    fits-walk (walk_of es)
    (rw (walk-marks es, ← append-none (walked 0 (entries_under es 0))) (walked-fits 0 0 (entries_under es 0) [] (omega arith) (λ m' h. tt)))

-- the same tree
pub restored-walk : (es : List Entry) → entries_under (restored (walk_of es)) 0 ≡ entries_under es 0
unfolding entries_under
restored-walk es =
    ap (λ (rs : List (Row Entry Entry)). tree 1 rs 0) (rows-by-depth (walk_of es) (walk-all es) ∙ ap (rows_by 1 (λ j. 0)) (walk-marks es))
    ∙ read-walked (entries_under es 0)
