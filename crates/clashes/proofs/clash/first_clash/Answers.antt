-- `first_clash` meets its contract: the list is indexed whole, and every owner has its number in the table.
use Rattle.std.proofs.Common.{◌∙◌, List, ℕ, subst, arith}
use Rattle.blocks.specs.Entries.{entries_of}
use Rattle.clashes.proofs.Completing.{found-below}
use Rattle.clashes.specs.Promise.{apart_ok}
use Rattle.pairs.proofs.IndexLaws.{list-whole}
use Rattle.pairs.specs.code.Search.{Finds}
use Rattle.clashes.proofs.clash.first_clash.Goals as goal

pub returns-then-n-lt64 : goal.returns-then-n-lt64
returns-then-n-lt64 c =
    subst (λ (P : List ℕ). Finds (apart_ok P (entries_of c.args.s.now)) c.args.n c.clash_within.result) (c.new-exclusions.ensures.listed ∙ list-whole _ c.requires.0)
    (found-below _ _ (λ i lo hi. omega (arith, c.requires.4 i lo hi)) _ c.clash_within.ensures)

pub returns : goal.returns
returns c =
    subst (λ (P : List ℕ). Finds (apart_ok P (entries_of c.args.s.now)) c.args.n c.clash_within-2.result) (c.new-exclusions.ensures.listed ∙ list-whole _ c.requires.0)
    (found-below _ _ (λ i lo hi. omega (arith, c.requires.4 i lo hi)) _ c.clash_within-2.ensures)
