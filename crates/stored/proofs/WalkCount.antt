-- The entries in walking order are as many as all: each entry of a legal list is come to, and once.
-- Assumes nothing.
use Rattle.std.proofs.Common.{◌≡◌, ℕ, zero, suc, ◌+◌, ◌<◌, ◌≤◌, cond, eqb, List, length, refl, sym, ap, ◌∙◌, length-append, arith}
use lib.ListN.{length-map}
use Rattle.base.proofs.Sums.{sum-ext}
use Rattle.base.proofs.Tests.{eq-cases, eq-eqb, ne_eqb}
use Rattle.base.specs.Range.{sum}
use Rattle.blocks.proofs.Refusing.Legal.{owner-earlier}
use Rattle.blocks.specs.Entries.{nth}
use Rattle.blocks.specs.Owners.{owner_of}
use Rattle.blocks.specs.Promise.{Legal}
use Rattle.blocks.specs.declared.Entry.{Entry}
use Rattle.blocks.specs.declared.Schema.TheVariants.{Description}
use Rattle.logic.specs.Size.{measure, nodes}
use Rattle.logic.specs.Tree.{Tree, end, leaf, node}
use Rattle.stored.proofs.WalkLaws.{part, part-all, part-end, part-gone, part-leaf, part-leaf-own, part-node, part-own}
use Rattle.stored.specs.Walked.{entries_under, mark_stored, walk_of, walked}

-- a sum in which one term is c more
sum-one : (f : ℕ → ℕ) (c o n : ℕ) → o < n → sum (λ k. cond (eqb k o) (c + f k) (f k)) n ≡ c + sum f n
unfolding sum
sum-one f c o zero h = absurd (omega arith)
sum-one f c o (suc n) h =
    eq-cases n o
    (λ z. rw (eq-eqb z) (omega (arith, sum-ext (λ k. cond (eqb k o) (c + f k) (f k)) f n (λ k l. rw (ne_eqb {m = k} {n = o} (λ q. omega arith)) refl))))
    (λ z. rw (ne_eqb z) (omega (arith, sum-one f c o n (omega arith))))

sum-zeros : (n : ℕ) → sum (λ o. 0) n ≡ 0
unfolding sum
sum-zeros zero = refl
sum-zeros (suc n) = omega (arith, sum-zeros n)

module _ (es : List Entry) (L : Legal Description es) where
  -- what the numbers below n own from entry n on, together
  abbrev owned : ℕ → ℕ
  owned n = sum (λ o. nodes (part es o n)) n

  count-from : (left n : ℕ) → 1 ≤ n → n + left ≡ suc (length es) → owned n ≡ left
  unfolding sum measure
  count-from zero n lo e = sum-ext (λ o. nodes (part es o n)) (λ o. 0) n (λ o h. rw (part-end es o n (omega arith)) refl) ∙ sum-zeros n
  count-from (suc left) n lo e =
      let f : ℕ → ℕ = λ o. nodes (part es o (suc n)) in
      let w = owner_of es n in
      let early : w < n = owner-earlier L n lo (omega arith) in
      let ih : sum f n + f n ≡ left = count-from left (suc n) (omega arith) (omega arith) in
      eq-cases (nth es n).kind 5
      (λ k.
      let own : nodes (entries_under es n) ≡ f n = ap nodes (part-own es L n lo (omega arith)) in
      let terms : owned n ≡ sum (λ o. cond (eqb o w) (suc (f n) + f o) (f o)) n =
      sum-ext _ _ n (λ o h. eq-cases o w
      (λ z. rw (eq-eqb z, part-node es L o n lo (omega arith) (sym z) k) (omega (arith, own)))
      (λ z. rw (ne_eqb z, part-gone es o n (omega arith) (λ q. z (sym q))) refl)) in
      terms ∙ sum-one f (suc (f n)) w n early ∙ omega (arith, ih))
      (λ k.
      let none : f n ≡ 0 = rw (part-leaf-own es L n lo (omega arith) k) refl in
      let terms : owned n ≡ sum (λ o. cond (eqb o w) (1 + f o) (f o)) n =
      sum-ext _ _ n (λ o h. eq-cases o w
      (λ z. rw (eq-eqb z, part-leaf es o n (omega arith) (sym z) k) refl)
      (λ z. rw (ne_eqb z, part-gone es o n (omega arith) (λ q. z (sym q))) refl)) in
      terms ∙ sum-one f 1 w n early ∙ omega (arith, ih, none))

  pub nodes-all : nodes (entries_under es 0) ≡ length es
  unfolding sum
  nodes-all =
      let c : 0 + nodes (part es 0 1) ≡ length es = count-from (length es) 1 (omega arith) (omega arith) in
      let a : nodes (entries_under es 0) ≡ nodes (part es 0 1) = ap nodes (part-all es 0) in
      omega (arith, a, c)

-- the marks of a tree are as many as its entries
pub length-walked : {A B : Type 0} (d : ℕ) (t : Tree A B) → length (walked d t) ≡ nodes t
unfolding walked measure
length-walked d end = refl
length-walked d (leaf a r) = omega (arith, length-walked d r)
length-walked d (node b s r) = omega (arith, length-append (walked (suc d) s) (walked d r), length-walked (suc d) s, length-walked d r)

pub length-walk : (es : List Entry) → Legal Description es → length (walk_of es) ≡ length es
unfolding walk_of
length-walk es L = length-map (walked 0 (entries_under es 0)) mark_stored ∙ length-walked 0 (entries_under es 0) ∙ nodes-all es L
