-- `mark_items` meets its contract: a dictionary of length 0 has no bytes.
use Rattle.std.proofs.Common.{◌≡◌, ◌∙◌, ◌<◌, List, ℕ, Bool, [], ◌∷◌, false, true, eqb, length, sym, refl, arith, subst}
use Rattle.base.proofs.Tests.{eqb-eq, eqb-ne}
use Rattle.items.proofs.answer.mark_items.Goals as goal

nothing : (D : List ℕ) → length D ≡ 0 → [] ≡ D
nothing [] e = refl
nothing (x ∷ D) e = absurd (omega arith)

pub returns-then-is_empty-clause-reading : goal.returns-then-is_empty-clause-reading
returns-then-is_empty-clause-reading c =
    let z = nothing c.args.dictionary.now (eqb-eq (sym c.is_empty.ensures ∙ c.if-is_empty.true)) in
    rw z at c.mark_plain.ensures.reading

pub returns-then-is_empty-clause-marked : goal.returns-then-is_empty-clause-marked
returns-then-is_empty-clause-marked c =
    let z = nothing c.args.dictionary.now (eqb-eq (sym c.is_empty.ensures ∙ c.if-is_empty.true)) in
    rw z at c.mark_plain.ensures.marked

pub mark_named-requires : goal.mark_named-requires
mark_named-requires c = let z = eqb-ne (sym c.is_empty.ensures ∙ c.if-is_empty.false) in omega (arith, z)
