-- Reading what was written in walking order gives the tree again.
-- Assumes nothing.
use Rattle.std.proofs.Common.{◌≡◌, ◌≢◌, ℕ, suc, ◌+◌, ◌<◌, ◌≤◌, cond, leb, List, [], ◌∷◌, ◌++◌, append_assoc, refl, sym, ap, ◌∙◌, arith}
use Rattle.base.proofs.Tests.{eq-eqb, gt-leb, le-leb, lt-cases, ne_eqb}
use Rattle.logic.specs.Tree.{Row, Tree, end, leaf, leaf_row, node, node_row, tree}
use Rattle.stored.specs.Walked.{Mark, leaf_at, node_at, walked}

-- who owns after an 'every' of number k and depth d
abbrev under : ℕ → ℕ → (ℕ → ℕ) → (ℕ → ℕ)
under d k last = λ j. cond (leb j d) (last j) k

under-below : (d k : ℕ) (last : ℕ → ℕ) (j : ℕ) → ((j : ℕ) → j ≤ d → last j < k) → under d k last j < suc k
under-below d k last j below = lt-cases d j (λ h. rw (gt-leb h) (omega arith)) (λ h. rw (le-leb h) (let b = below j h in omega arith))

pub append-none : {A : Type 0} (xs : List A) → xs ++ [] ≡ xs
append-none [] = refl
append-none (x ∷ xs) = rw (append-none xs)

module _ {A B : Type 0} where
  -- the rows of entries that count from k, where `last j` owns an entry of depth j
  unfoldable pub rows_by : ℕ → (ℕ → ℕ) → List (Mark A B) → List (Row A B)
  rows_by k last [] = []
  rows_by k last (leaf_at d a ∷ xs) = leaf_row (last d) a ∷ rows_by (suc k) last xs
  rows_by k last (node_at d b ∷ xs) = node_row (last d) b ∷ rows_by (suc k) (λ j. cond (leb j d) (last j) k) xs

  -- how many entries a tree has
  unfoldable cells : Tree A B → ℕ
  cells end = 0
  cells (leaf a r) = suc (cells r)
  cells (node b s r) = suc (cells s + cells r)

  -- the entries of one owner, and then more of them
  unfoldable join : Tree A B → Tree A B → Tree A B
  join end u = u
  join (leaf a r) u = leaf a (join r u)
  join (node b s r) u = node b s (join r u)

  -- who owns after a tree at depth d whose entries count from k
  unfoldable after : ℕ → ℕ → (ℕ → ℕ) → Tree A B → ℕ → ℕ
  after d k last end = last
  after d k last (leaf a r) = after d (suc k) last r
  after d k last (node b s r) = after d (suc k + cells s) (after (suc d) (suc k) (under d k last) s) r

  -- at its depth and above nothing changes
  after-low : (t : Tree A B) (d k : ℕ) (last : ℕ → ℕ) (j : ℕ) → j ≤ d → after d k last t j ≡ last j
  unfolding after
  after-low end d k last j h = refl
  after-low (leaf a r) d k last j h = after-low r d (suc k) last j h
  after-low (node b s r) d k last j h =
      after-low r d (suc k + cells s) (after (suc d) (suc k) (under d k last) s) j h
      ∙ after-low s (suc d) (suc k) (under d k last) j (omega arith)
      ∙ rw (le-leb h)

  -- the rest of the rows, after a tree and then ys
  abbrev rest : ℕ → ℕ → (ℕ → ℕ) → Tree A B → List (Mark A B) → ℕ → Tree A B
  rest d k last t ys o = tree (k + cells t) (rows_by (k + cells t) (after d k last t) ys) o

  -- the tree's entries are no other owner's
  passes : (t : Tree A B) (d k : ℕ) (last : ℕ → ℕ) (ys : List (Mark A B)) (o : ℕ) → o < k → last d ≢ o
      → tree k (rows_by k last (walked d t ++ ys)) o ≡ rest d k last t ys o
  unfolding walked rows_by tree after cells
  passes end d k last ys o l n = let e : k + 0 ≡ k = omega arith in rw e
  passes (leaf a r) d k last ys o l n =
      let e : k + suc (cells r) ≡ suc k + cells r = omega arith in
      rw (ne_eqb {m = o} {n = last d} (λ q. n (sym q)), e) (passes r d (suc k) last ys o (omega arith) n)
  passes (node b s r) d k last ys o l n =
      let e : k + suc (cells s + cells r) ≡ suc k + cells s + cells r = omega arith in
      let L = under d k last in
      let up : L (suc d) ≡ k = rw (gt-leb {m = suc d} {n = d} (omega arith)) in
      let low : after (suc d) (suc k) L s d ≡ last d = after-low s (suc d) (suc k) L d (omega arith) ∙ rw (le-leb {m = d} {n = d} (omega arith)) in
      let split : (walked (suc d) s ++ walked d r) ++ ys ≡ walked (suc d) s ++ (walked d r ++ ys) = rw append_assoc in
      rw (ne_eqb {m = o} {n = last d} (λ q. n (sym q)), e, split)
      (passes s (suc d) (suc k) L (walked d r ++ ys) o (omega arith) (λ q. let w = sym up ∙ q in omega arith)
      ∙ passes r d (suc k + cells s) (after (suc d) (suc k) L s) ys o (omega arith) (λ q. n (sym low ∙ q)))

  join-end : (t : Tree A B) → join t end ≡ t
  unfolding join
  join-end end = refl
  join-end (leaf a r) = rw (join-end r)
  join-end (node b s r) = rw (join-end r)

  inner-place : (s : Tree A B) (d k : ℕ) (L : ℕ → ℕ) (zs : List (Mark A B)) → L (suc d) ≡ k
      → tree (suc k) (rows_by (suc k) L (walked (suc d) s ++ zs)) (L (suc d)) ≡ join s (rest (suc d) (suc k) L s zs (L (suc d)))
      → rest (suc d) (suc k) L s zs k ≡ end → tree (suc k) (rows_by (suc k) L (walked (suc d) s ++ zs)) k ≡ s
  inner-place s d k L zs up h z =
      let h' = rw up at h in h' ∙ rw z (join-end s)

  -- the entries at a tree's depth are read as the tree, where nothing that comes later is owned by one of its entries
  reads : (t : Tree A B) (d k : ℕ) (last : ℕ → ℕ) (ys : List (Mark A B)) → ((j : ℕ) → j ≤ d → last j < k)
      → ((o : ℕ) → k ≤ o → o < k + cells t → rest d k last t ys o ≡ end)
      → tree k (rows_by k last (walked d t ++ ys)) (last d) ≡ join t (rest d k last t ys (last d))
  unfolding walked rows_by tree after cells join
  reads end d k last ys below none = let e : k + 0 ≡ k = omega arith in rw e
  reads (leaf a r) d k last ys below none =
      let e : k + suc (cells r) ≡ suc k + cells r = omega arith in
      let h = reads r d (suc k) last ys (λ j l. let b = below j l in omega arith) (λ o lo hi. rw (← e) (none o (omega arith) (omega arith))) in
      rw (eq-eqb {m = last d} {n = last d} refl, e, h)
  reads (node b s r) d k last ys below none =
      let e : k + suc (cells s + cells r) ≡ suc k + cells s + cells r = omega arith in
      let L = under d k last in
      let M = after (suc d) (suc k) L s in
      let up : L (suc d) ≡ k = rw (gt-leb {m = suc d} {n = d} (omega arith)) in
      let low : (j : ℕ) → j ≤ d → M j ≡ last j = λ j h. after-low s (suc d) (suc k) L j (omega arith) ∙ rw (le-leb h) in
      let split : (walked (suc d) s ++ walked d r) ++ ys ≡ walked (suc d) s ++ (walked d r ++ ys) = rw append_assoc in
      let lastd = below d (omega arith) in
      -- what comes after the place that b owns is none of its entries', nor b's own
      let later : (o : ℕ) → k ≤ o → o < suc k + cells s → tree (suc k + cells s) (rows_by (suc k + cells s) M (walked d r ++ ys)) o ≡ end =
      λ o lo hi. passes r d (suc k + cells s) M ys o hi (λ q. let w = low d (omega arith) in omega arith) ∙ rw (← e) (none o lo (omega arith)) in
      let inner : tree (suc k) (rows_by (suc k) L (walked (suc d) s ++ (walked d r ++ ys))) k ≡ s = inner-place s d k L (walked d r ++ ys) up
      (reads s (suc d) (suc k) L (walked d r ++ ys) (λ j l. under-below d k last j below) (λ o lo hi. later o (omega arith) hi)) (later k (omega arith) (omega arith)) in
      let outer : tree (suc k) (rows_by (suc k) L (walked (suc d) s ++ (walked d r ++ ys))) (last d) ≡ join r (rest d k last (node b s r) ys (last d)) =
      passes s (suc d) (suc k) L (walked d r ++ ys) (last d) (omega arith) (λ q. omega arith)
      ∙ ap (λ (o : ℕ). tree (suc k + cells s) (rows_by (suc k + cells s) M (walked d r ++ ys)) o) (sym (low d (omega arith)))
      ∙ reads r d (suc k + cells s) M ys (λ j l. let b = below j l in let w = low j l in omega arith) (λ o lo hi. rw (← e) (none o (omega arith) (omega arith)))
      ∙ rw (low d (omega arith), e) in
      rw (eq-eqb {m = last d} {n = last d} refl, split, inner, outer)

-- a tree that is written in walking order is read again
pub read-walked : {A B : Type 0} (t : Tree A B) → tree 1 (rows_by 1 (λ j. 0) (walked 0 t)) 0 ≡ t
unfolding rows_by tree
read-walked t =
    let w : walked 0 t ++ [] ≡ walked 0 t = append-none (walked 0 t) in
    rw (← w) (reads t 0 1 (λ j. 0) [] (λ j h. omega arith) (λ o lo hi. refl) ∙ join-end t)
