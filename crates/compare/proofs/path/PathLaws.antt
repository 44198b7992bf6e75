-- The links to an entry, gathered from the entry up: those into the place of an owner, then those that are kept.
-- Assumes nothing.
use Prim.Native.Nat.{◌+◌, ◌-◌, ◌<◌, ◌≤◌, suc, zero, ℕ}
use lib.ListN.{get_or, length, length-append, replicate, set}
use lib.Seq.{get_or-set_other, get_or-set_same}
use mathlib.Core.List.{List, [], ◌++◌, ◌∷◌, append_assoc, append-nil}
use mathlib.Core.Logic.{◌≢◌}
use mathlib.Core.Path.{◌∙◌, ◌≡◌, ap, refl, sym}
use native.Mathlib.Numerals.{add-one}
use native.Mathlib.Omega.{arith}
use Rattle.base.proofs.Lists.{set-each, zeros-read}
use Rattle.base.proofs.Tests.{eq-eqb, ne_eqb}
use Rattle.blocks.specs.Entries.{nth}
use Rattle.blocks.specs.Owners.{owner_of}
use Rattle.blocks.specs.declared.Entry.{Entry}
use Rattle.compare.specs.code.Codes.{up_from}
use Rattle.meaning.proofs.Descriptions.Links.{links-into, links_into}
use Rattle.meaning.specs.Description.{links_to}
use Rattle.meaning.specs.Owned.{Owned}

-- ---- the links that are kept

-- they are m
pub length_up : (links : List ℕ) (m : ℕ) → length (up_from links m) ≡ m
unfolding up_from
length_up links zero = refl
length_up links (suc m) = ap suc (length_up links m)

-- the one at index i is link m - (i + 1), counted from the entry up
pub up_at : (links : List ℕ) (i m : ℕ) → i < m → get_or (up_from links m) i 0 ≡ get_or links (m - suc i) 0
unfolding up_from
up_at links i zero h = absurd (omega arith)
up_at links zero (suc m) h = ap (λ (j : ℕ). get_or links j 0) (omega arith)
up_at links (suc i) (suc m) h = up_at links i m (omega arith) ∙ ap (λ (j : ℕ). get_or links j 0) (omega arith)

-- what is stored from index m on does not change the first m
up-other : (links : List ℕ) (i x m : ℕ) → m ≤ i → up_from (set links i x) m ≡ up_from links m
unfolding up_from
up-other links i x zero h = refl
up-other links i x (suc m) h = rw (get_or-set_other links i m x 0 (λ q. omega arith), up-other links i x m (omega arith))

-- one link more
up_more : (links : List ℕ) (m x : ℕ) → m < length links → up_from (set links m x) (m + 1) ≡ x ∷ up_from links m
unfolding up_from
up_more links m x h = rw (add-one, up_from, get_or-set_same links m x 0 h, up-other links m x m (omega arith))

-- ---- the way up

-- the links to entry n are those into the place of entry o, which stands before it, then the m that are kept
pub record Climbed (d : List Entry) (n : ℕ) (links : List ℕ) (o m : ℕ) : Type 0 where
  pub before : o < n
  pub parts : links_to d n ≡ links_into d o ++ up_from links m

-- below the top fewer are kept than there are
pub climbed-room : {d : List Entry} {n : ℕ} {links : List ℕ} {o m : ℕ} → o ≢ 0 → Climbed d n links o m → m < length (links_to d n)
unfolding links_into
climbed-room {d} {n} {links} {o} {m} z c =
    let e : links_to d n ≡ (links_to d o ++ ((nth d o).name ∷ [])) ++ up_from links m = rw (ne_eqb z) at c.parts in
    omega (arith, simp length-append at (ap length e), length_up links m)

-- at the top all are kept
pub climbed-top : {d : List Entry} {n : ℕ} {links : List ℕ} {o m : ℕ} → o ≡ 0 → Climbed d n links o m → links_to d n ≡ up_from links m
unfolding links_into
climbed-top z c = rw (eq-eqb z) at c.parts

module _ {d : List Entry} (owned : Owned d) where
  -- at the entry's owner none is
  pub climbed-start : (links : List ℕ) {n o : ℕ} → 1 ≤ n → n ≤ length d → o ≡ (nth d n).owner → Climbed d n links o 0
  unfolding owner_of up_from
  climbed-start links {n} {o} lo hi e =
      record { before = rw e (owned.earlier n lo hi); parts = rw e (links-into d owned.earlier n lo hi ∙ sym (append-nil (links_into d (nth d n).owner))) }

  -- a step up keeps one more
  pub climbed-more : {n : ℕ} {links : List ℕ} {o m x o' : ℕ} → o ≢ 0 → o ≤ length d → m < length links → x ≡ (nth d o).name → o' ≡ (nth d o).owner
      → Climbed d n links o m → Climbed d n (set links m x) o' (m + 1)
  unfolding links_into owner_of
  climbed-more {n} {links} {o} {m} {x} {o'} z hi l name owner c =
      let p : links_to d n ≡ (links_to d o ++ ((nth d o).name ∷ [])) ++ up_from links m = rw (ne_eqb z) at c.parts in
      let f = links-into d owned.earlier o (omega arith) hi in
      let b = owned.earlier o (omega arith) hi in
      record {
        before = omega (arith, b, c.before);
        parts = p ∙ rw (up_more links m x l, append_assoc, name, owner) (ap (λ (w : List ℕ). w ++ ((nth d o).name ∷ up_from links m)) f);
      }

-- ---- what is kept is of two bytes

pub names-start : {links : List ℕ} → links ≡ replicate 32 0 → (i : ℕ) → get_or links i 0 < 65536
names-start e i = rw (zeros-read 32 e i) (omega arith)

pub names_more : (links : List ℕ) {m x : ℕ} → ((i : ℕ) → get_or links i 0 < 65536) → m < length links → x < 65536 → (i : ℕ) → get_or (set links m x) i 0 < 65536
names_more links h l b i = set-each (λ x. x < 65536) links h l b i
