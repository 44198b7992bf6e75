-- A code of places, one for each. By it antt sees that an equation of places has one proof at most, as a struct's ghost field asks. No public
-- promise names these.
-- Assumes nothing.
use Rattle.std.specs.Prelude.{ℕ, ◌≡◌}
use base.Stored.{Coded, Gv, gcons, gnil, gnum}
use mathlib.Core.Path.{◌∙◌, ap, refl, sym}
use Rattle.logic.specs.Normal.{rank}
use Rattle.logic.specs.Place.{Kind, Place, atom, has, kind_of, lacks, least, most, nothing}
use Rattle.logic.specs.Tree.{end, leaf, node}

-- a kind is that of its number
back : (k : Kind) → kind_of (rank k) ≡ k
unfolding kind_of
back has = refl
back lacks = refl
back least = refl
back most = refl
back nothing = refl

rank_one : (k k' : Kind) → rank k ≡ rank k' → k ≡ k'
rank_one k k' e = sym (back k) ∙ ap kind_of e ∙ back k'

-- the fields of a place, one after another
unfoldable code_of : Place → Gv
code_of end = gnil
code_of (leaf (atom k n m) r) = gcons (gnum 0) (gcons (gnum (rank k)) (gcons (gnum n) (gcons (gnum m) (code_of r))))
code_of (node l s r) = gcons (gnum 1) (gcons (gnum l) (gcons (code_of s) (code_of r)))

code_one : (p q : Place) → code_of p ≡ code_of q → p ≡ q
unfolding code_of
code_one end end e = refl
code_one end (leaf (atom k n m) r) e = cc
code_one end (node l s r) e = cc
code_one (leaf (atom k n m) r) end e = cc
code_one (leaf (atom k n m) r) (leaf (atom k' n' m') r') e =
    let a : rank k ≡ rank k' = cc in
    let b : n ≡ n' = cc in
    let c : m ≡ m' = cc in
    let d : code_of r ≡ code_of r' = cc in
    let f = rank_one k k' a in
    let g = code_one r r' d in
    cc
code_one (leaf (atom k n m) r) (node l s r') e = let z : ◌≡◌ {A = ℕ} 0 1 = cc in cc
code_one (node l s r) end e = cc
code_one (node l s r) (leaf (atom k n m) r') e = let z : ◌≡◌ {A = ℕ} 1 0 = cc in cc
code_one (node l s r) (node l' s' r') e =
    let a : l ≡ l' = cc in
    let c : code_of s ≡ code_of s' = cc in
    let d : code_of r ≡ code_of r' = cc in
    let f = code_one s s' c in
    let g = code_one r r' d in
    cc

pub place_coded : Coded Place
place_coded = record { code = code_of; inj = code_one }
