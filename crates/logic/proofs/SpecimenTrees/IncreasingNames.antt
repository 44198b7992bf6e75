-- Ascending names: the names of a place, put into a list each once, ascend; and ascending lists with the same members are one.
-- Assumes nothing.
use Prim.Native.Nat.{◌<◌, ◌≤◌, suc, ℕ}
use lib.Dec.{eqb, ltb}
use mathlib.Core.Bool.{◌||◌, false, false≢true, true}
use mathlib.Core.List.{List, [], ◌∷◌}
use mathlib.Core.Path.{◌∙◌, ◌≡◌, ap₂, refl, sym}
use native.Mathlib.Omega.{arith}
use Rattle.base.proofs.Tests.{bool_cases, eqb-self, eq-cases, lt-cases, ne_eqb, neither_left, neither_right, or_left, or-none, tests}
use Rattle.logic.specs.Normal.{rank}
use Rattle.logic.specs.Place.{Kind, Place, atom, has, lacks, least, most, nothing}
use Rattle.logic.specs.Tree.{end, leaf, node}
use Rattle.logic.specs.Witness.{Target, member, names, off, on, once, put_ascending, target_links, target_properties}

-- ---- ascending lists

-- each is at least b, and above the one before it
abbrev pub Increasing : ℕ → List ℕ → Type 0
Increasing b [] = Unit {0}
Increasing b (x ∷ xs) = (b ≤ x) × Increasing (suc x) xs

-- a lower number is not there
increasing-absent : (x b : ℕ) (ys : List ℕ) → x < b → Increasing b ys → member x ys ≡ false
unfolding member
increasing-absent x b [] h r = refl
increasing-absent x b (y ∷ ys) h r = or-none {a = eqb x y} (omega (tests, r.0)) (increasing-absent x (suc y) ys (omega (arith, r.0)) r.1)

-- the first of a list is one of it
first_member : (x : ℕ) (xs : List ℕ) → member x (x ∷ xs) ≡ true
unfolding member
first_member x xs = or_left (member x xs) (eqb-self x)

-- a number that is below a list's first is not in it
low-absent : (x y : ℕ) (ys : List ℕ) → x < y → Increasing (suc y) ys → member x (y ∷ ys) ≡ false
unfolding member
low-absent x y ys h r = or-none {a = eqb x y} (omega tests) (increasing-absent x (suc y) ys (omega arith) r)

-- without their first, which is one, they have the same members too
rest-same : (x y : ℕ) (xs ys : List ℕ) → x ≡ y → Increasing (suc x) xs → Increasing (suc y) ys → ((z : ℕ) → member z (x ∷ xs) ≡ member z (y ∷ ys))
    → (z : ℕ) → member z xs ≡ member z ys
unfolding member
rest-same x y xs ys q r s h z =
    eq-cases z x
    (λ e. increasing-absent z (suc x) xs (omega arith) r ∙ sym (increasing-absent z (suc y) ys (omega arith) s))
    (λ e.
    let f : (eqb z x || member z xs) ≡ (eqb z y || member z ys) = h z in
    let u : eqb z x ≡ false = ne_eqb e in
    let v : eqb z y ≡ false = ne_eqb (λ g. e (g ∙ sym q)) in
    rw (u, v) at f)

-- lists that ascend and have the same members are one
pub increasing-one : (b c : ℕ) (xs ys : List ℕ) → Increasing b xs → Increasing c ys → ((x : ℕ) → member x xs ≡ member x ys) → xs ≡ ys
increasing-one b c [] [] r s h = refl
increasing-one b c [] (y ∷ ys) r s h = absurd (false≢true (unfold member in h y ∙ first_member y ys))
increasing-one b c (x ∷ xs) [] r s h = absurd (false≢true (unfold member in sym (h x) ∙ first_member x xs))
increasing-one b c (x ∷ xs) (y ∷ ys) r s h =
    lt-cases x y
    (λ l. absurd (false≢true (sym (low-absent x y ys l s.1) ∙ sym (h x) ∙ first_member x xs)))
    (λ l. eq-cases x y
    (λ q. ap₂ (λ (z : ℕ) (zs : List ℕ). z ∷ zs) q (increasing-one (suc x) (suc y) xs ys r.1 s.1 (rest-same x y xs ys q r.1 s.1 h)))
    (λ q. absurd (false≢true (sym (low-absent y x xs (omega arith) r.1) ∙ h y ∙ first_member y ys))))

-- ---- names put into a list ascend

put-increasing : (b x : ℕ) (ys : List ℕ) → b ≤ x → member x ys ≡ false → Increasing b ys → Increasing b (put_ascending x ys)
unfolding put_ascending member
put-increasing b x [] l m h = (l, tt)
put-increasing b x (y ∷ ys) l m h =
    let n : eqb x y ≡ false = neither_left (eqb x y) (member x ys) m in
    bool_cases (ltb x y)
    (λ q. rw q (l, (omega tests, h.1)))
    (λ q. rw q (h.0, put-increasing (suc y) x ys (omega tests) (neither_right (eqb x y) (member x ys) m) h.1))

pub once-increasing : (x : ℕ) (ys : List ℕ) → Increasing 0 ys → Increasing 0 (once x ys)
unfolding once
once-increasing x ys h = bool_cases (member x ys) (λ q. rw q h) (λ q. rw q (put-increasing 0 x ys (omega arith) q h))

pub names-increasing : (k : Kind) (t : Place) (ys : List ℕ) → Increasing 0 ys → Increasing 0 (names k t ys)
unfolding names
names-increasing k end ys h = h
names-increasing k (leaf (atom k' n m) r) ys h =
    bool_cases (eqb (rank k) (rank k')) (λ q. rw q (once-increasing n (names k r ys) (names-increasing k r ys h))) (λ q. rw q (names-increasing k r ys h))
names-increasing k (node l s r) ys h = names-increasing k r ys h

pub links-increasing : (g : Target) → Increasing 0 (target_links g)
links-increasing off = tt
links-increasing (on [] (atom has n m)) = tt
links-increasing (on [] (atom lacks n m)) = tt
links-increasing (on [] (atom least n m)) = tt
links-increasing (on [] (atom most n m)) = (omega arith, tt)
links-increasing (on [] (atom nothing n m)) = tt
links-increasing (on (l ∷ w) a) = (omega arith, tt)

pub properties-increasing : (g : Target) → Increasing 0 (target_properties g)
properties-increasing off = tt
properties-increasing (on [] (atom has n m)) = tt
properties-increasing (on [] (atom lacks n m)) = (omega arith, tt)
properties-increasing (on [] (atom least n m)) = tt
properties-increasing (on [] (atom most n m)) = tt
properties-increasing (on [] (atom nothing n m)) = tt
properties-increasing (on (l ∷ w) a) = tt
