-- Keys as numbers: made of their parts, equal where the keys are one; and the bounds of the slots of entries.
-- Assumes nothing.
use Prim.Native.Nat.{◌%◌, ◌*◌, ◌+◌, ◌/◌, ◌<◌, ◌≤◌, suc, ℕ}
use lib.Dec.{eqb}
use mathlib.Core.Bool.{Bool, false, false≢true, true}
use mathlib.Core.List.{List, [], ◌∷◌}
use mathlib.Core.Option.{Option, none, some}
use mathlib.Core.Path.{◌≡◌}
use native.Mathlib.Omega.{arith}
use Rattle.base.proofs.Missing.{opt_cases}
use Rattle.base.proofs.Tests.{and_both, and_left, and_right, bool_cases, iff-eq, tests}
use Rattle.base.specs.Range.{bit}
use Rattle.logic.specs.Place.{Atom, Kind, atom, has, lacks, least, most, nothing}
use Rattle.logic.specs.Tree.{Row, leaf_row, node_row}
use Rattle.passes.specs.code.Keys.{Small, SmallRows, SmallSlot, SmallSlots, SmallTop, key_number}
use Rattle.passes.specs.code.Slots.{Slot, build, high, is_link, leading, low, position, same_key, slot, slots, smaller, tighten}

-- ---- numbers

-- the bit of a class
bit-of : (k : ℕ) → bit (eqb (k / 65536 % 2) 1) ≡ k / 65536 % 2
bit-of k = bool_cases (eqb (k / 65536 % 2) 1) (λ q. rw q (omega tests)) (λ q. rw q (omega tests))

-- a key is made of its parts
pub key-parts : (k : ℕ) → key_number (k / 131072) (eqb (k / 65536 % 2) 1) (k % 65536) ≡ k
unfolding key_number
key-parts k = rw (key_number, bit-of k) (omega arith)

pub class_of : (v : ℕ) (b : Bool) (n : ℕ) → n < 65536 → eqb (key_number v b n / 65536 % 2) 1 ≡ b
unfolding key_number
class_of v true n h = let e : (131072 * v + (65536 * 1 + n)) / 65536 % 2 ≡ 1 = omega arith in rw e
class_of v false n h = let e : (131072 * v + (65536 * 0 + n)) / 65536 % 2 ≡ 0 = omega arith in rw e

bit-small : (b : Bool) → bit b ≤ 1
bit-small true = omega arith
bit-small false = omega arith

pub place-of-key : (v : ℕ) (b : Bool) (n : ℕ) → n < 65536 → key_number v b n / 131072 ≡ v
unfolding key_number
place-of-key v b n h = omega (arith, bit-small b)

pub name-of-key : (v : ℕ) (b : Bool) (n : ℕ) → n < 65536 → key_number v b n % 65536 ≡ n
unfolding key_number
name-of-key v b n h = omega (arith, bit-small b)

-- two numbers are equal where the keys are one
pub key-same : (u : ℕ) (b : Bool) (n v : ℕ) (b' : Bool) (n' : ℕ) → Small n → Small n' → eqb (key_number u b n) (key_number v b' n') ≡ same_key u b n v b' n'
unfolding key_number
key-same u true n v true n' o o' =
    iff-eq (λ h. and_both {a = eqb u v} {b = eqb n n'} (omega tests) (omega tests))
    (λ h. let p : eqb u v ≡ true = and_left (eqb u v) (eqb n n') h in let q : eqb n n' ≡ true = and_right (eqb u v) (eqb n n') h in omega tests)
key-same u true n v false n' o o' = iff-eq (λ h. absurd (omega tests)) (λ h. absurd (false≢true (and_right (eqb u v) false h)))
key-same u false n v true n' o o' = iff-eq (λ h. absurd (omega tests)) (λ h. absurd (false≢true (and_right (eqb u v) false h)))
key-same u false n v false n' o o' =
    iff-eq (λ h. and_both {a = eqb u v} {b = eqb n n'} (omega tests) (omega tests))
    (λ h. let p : eqb u v ≡ true = and_left (eqb u v) (eqb n n') h in let q : eqb n n' ≡ true = and_right (eqb u v) (eqb n n') h in omega tests)

-- ---- names and numbers

small-smaller : (o o' : Option ℕ) → SmallTop o → SmallTop o' → SmallTop (smaller o o')
small-smaller none o' s s' = s'
small-smaller (some h) none s s' = s
small-smaller (some h) (some h') s s' = omega arith

pub small-tighten : (ss : List Slot) (v : ℕ) (b : Bool) (n lo : ℕ) (hi : Option ℕ) → SmallSlot (slot v b n lo hi) → SmallSlots ss → SmallSlots (tighten ss v b n lo hi)
unfolding tighten
small-tighten [] v b n lo hi o s = (o, tt)
small-tighten (slot v' b' n' lo' hi' ∷ ss) v b n lo hi o s =
    bool_cases (same_key v' b' n' v b n)
    (λ q.
    let l : Small lo = o.1 in
    let l' : Small lo' = s.0.1 in
    rw q ((s.0.0, omega arith, small-smaller hi' hi s.0.2 o.2), s.1))
    (λ q. rw q (s.0, small-tighten ss v b n lo hi o s.1))

-- the bounds of an atom
pub small-atom : (a : Kind) (v n m : ℕ) → Small n → Small m → SmallSlot (slot v (is_link a) n (low a m) (high a m))
small-atom has v n m h h' = (h, omega arith, tt)
small-atom lacks v n m h h' = (h, omega arith, omega arith)
small-atom least v n m h h' = (h, h', tt)
small-atom most v n m h h' = (h, omega arith, h')
small-atom nothing v n m h h' = (h, omega arith, omega arith)

small-build : (ν : ℕ → Option ℕ) (ss : List Slot) (k : ℕ) (rs : List (Row Atom ℕ)) → SmallSlots ss → SmallRows rs → SmallSlots (build ν ss k rs)
unfolding build
small-build ν ss k [] s o = s
small-build ν ss k (leaf_row p (atom a n m) ∷ rs) s o =
    opt_cases (ν p)
    (λ q. rw q (small-build ν ss (suc k) rs s o.1))
    (λ u q. rw q (small-build ν _ (suc k) rs (small-tighten ss u (is_link a) n (low a m) (high a m) (small-atom a u n m o.0.0 o.0.1) s) o.1))
small-build ν ss k (node_row p l ∷ rs) s o =
    opt_cases (ν p)
    (λ q. rw q (small-build ν ss (suc k) rs s o.1))
    (λ u q. rw q (small-build (leading ν k (position 1 ss u true l)) _ (suc k) rs (small-tighten ss u true l 0 none (o.0, omega arith, tt) s) o.1))

-- names and bounds of slots are names and numbers of entries
pub slots_small : (rs : List (Row Atom ℕ)) → SmallRows rs → SmallSlots (slots rs)
unfolding slots
slots_small rs o = small-build _ [] 1 rs tt o
