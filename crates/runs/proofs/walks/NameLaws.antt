-- Laws of the look for a name along a chain.
-- Assumes nothing.
use Rattle.std.proofs.Common.{◌≡◌, ◌≢◌, ◌<◌, ℕ, List, [], ◌∷◌, length, get_or, ap, sym, ◌∙◌}
use Rattle.std.specs.List.{All}
use Rattle.std.proofs.lemmas.List.Elements.{All-tail}
use Rattle.base.proofs.Tests.{eq-eqb, ne_eqb}
use Rattle.runs.proofs.AlongChains.{chain-inside}
use Rattle.runs.specs.code.Chained.{slot_name}
use Rattle.runs.specs.code.Walked.{Starting, chain_from, first_named, named}

-- what is left to look at: the answer is the first of these slots that has the name; no slot is past the end of the table
pub record Looking (t : List ℕ) (name answer : ℕ) (left : List ℕ) : Type 0 where
  pub rest : answer ≡ first_named t name left
  pub in_table : All (λ k. k < length t) left

pub look-starts : (t last before : List ℕ) (r name : ℕ) {s : ℕ} → Starting t last before r s
    → Looking t name (named t last before r name) (chain_from before s)
unfolding named
look-starts t last before r name {s} S = record { rest = rw S.is; in_table = chain-inside before s (length t) S.in_table }

module _ {t : List ℕ} {name answer : ℕ} {left : List ℕ} (L : Looking t name answer left) where
  pub look-ends : left ≡ [] → 0 ≡ answer
  unfolding first_named
  look-ends e = sym (L.rest ∙ rw e)

  -- the next slot is s, which is the number x of name y
  module _ {s : ℕ} {left' : List ℕ} (next : left ≡ s ∷ left') where
    module _ {x y : ℕ} (e : x ≡ get_or t s 0) (f : y ≡ slot_name x) where
      same : y ≡ slot_name (get_or t s 0)
      same = f ∙ ap slot_name e

      pub look-hits : y ≡ name → s ≡ answer
      unfolding first_named
      look-hits h = let q : slot_name (get_or t s 0) ≡ name = sym same ∙ h in sym (L.rest ∙ rw (next, eq-eqb q))

      pub look-goes : y ≢ name → Looking t name answer left'
      unfolding first_named
      look-goes h =
          let q : slot_name (get_or t s 0) ≢ name = λ z. h (same ∙ z) in
          record { rest = L.rest ∙ rw (next, ne_eqb q); in_table = All-tail (λ k. k < length t) s left' (rw next at L.in_table) }
