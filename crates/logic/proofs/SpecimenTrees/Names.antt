-- Names put into an ascending list, each once.
-- Assumes nothing.
use Prim.Native.Nat.{ℕ}
use lib.Dec.{eqb, ltb}
use mathlib.Core.Bool.{◌||◌, false}
use mathlib.Core.List.{List, [], ◌∷◌}
use mathlib.Core.Path.{◌∙◌, ◌≡◌, refl}
use Rattle.base.proofs.Missing.{or_swap}
use Rattle.base.proofs.Tests.{bool_cases, eqb-eq, neither_left, neither_right, or-none, tests}
use Rattle.logic.specs.Normal.{find, found, rank}
use Rattle.logic.specs.Place.{Kind, Place, atom}
use Rattle.logic.specs.Tree.{end, leaf, node}
use Rattle.logic.specs.Witness.{member, names, once, put_ascending}

member-put : (x y : ℕ) (ys : List ℕ) → member x (put_ascending y ys) ≡ eqb x y || member x ys
unfolding member put_ascending
member-put x y [] = refl
member-put x y (a ∷ ys) =
    bool_cases (ltb y a)
    (λ h. rw h)
    (λ h. rw (h, member-put x y ys) (or_swap (eqb x a) (eqb x y) (member x ys)))

pub member-once : (x y : ℕ) (ys : List ℕ) → member x (once y ys) ≡ eqb x y || member x ys
unfolding once
member-once x y ys =
    bool_cases (member y ys)
    (λ h. rw h (bool_cases (eqb x y) (λ q. let e : x ≡ y = eqb-eq q in rw (q, e, h)) (λ q. rw q)))
    (λ h. rw h (member-put x y ys))

-- no number stands twice
abbrev pub Different : List ℕ → Type 0
Different [] = Unit {0}
Different (y ∷ ys) = (member y ys ≡ false) × Different ys

different-put : (x : ℕ) (ys : List ℕ) → member x ys ≡ false → Different ys → Different (put_ascending x ys)
unfolding put_ascending member
different-put x [] n u = (refl, tt)
different-put x (y ∷ ys) n u =
    let z : eqb x y ≡ false = neither_left (eqb x y) (member x ys) n in
    bool_cases (ltb x y)
    (λ h. rw h (n, u))
    (λ h. rw h (member-put y x ys ∙ or-none {a = eqb y x} (omega tests) u.0, different-put x ys (neither_right (eqb x y) (member x ys) n) u.1))

different-once : (x : ℕ) (ys : List ℕ) → Different ys → Different (once x ys)
unfolding once
different-once x ys u = bool_cases (member x ys) (λ h. rw h u) (λ h. rw h (different-put x ys h u))

-- the names of a kind are those that are listed
pub member-names : (k : Kind) (x : ℕ) (t : Place) (ys : List ℕ) → member x (names k t ys) ≡ found (find k x t) || member x ys
unfolding names find
member-names k x end ys = refl
member-names k x (leaf (atom k' n m) r) ys =
    bool_cases (eqb (rank k) (rank k'))
    (λ q. bool_cases (eqb x n)
    (λ h. rw (q, h, member-once x n (names k r ys), h))
    (λ h. rw (q, h, member-once x n (names k r ys), h, member-names k x r ys)))
    (λ q. rw (q, member-names k x r ys))
member-names k x (node l s r) ys = member-names k x r ys

pub different-names : (k : Kind) (t : Place) (ys : List ℕ) → Different ys → Different (names k t ys)
unfolding names
different-names k end ys u = u
different-names k (leaf (atom k' n m) r) ys u =
    bool_cases (eqb (rank k) (rank k'))
    (λ q. rw q (different-once n (names k r ys) (different-names k r ys u)))
    (λ q. rw q (different-names k r ys u))
different-names k (node l s r) ys u = different-names k r ys u
