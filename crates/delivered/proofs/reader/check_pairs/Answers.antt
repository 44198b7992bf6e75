-- `check_pairs` meets its contract.
use Rattle.std.specs.Prelude.{None, Some}
use Rattle.std.proofs.Common.{◌∙◌, sym, arith}
use Rattle.base.proofs.Tests.{eqb-eq}
use Rattle.clashes.proofs.Completing.{found-below}
use Rattle.delivered.proofs.ReadingLaws.{clash-found, clash-nowhere, none-listed}
use Rattle.pairs.proofs.IndexLaws.{list-whole}
use Rattle.delivered.proofs.reader.check_pairs.Goals as goal

pub returns-then-is_empty : goal.returns-then-is_empty
returns-then-is_empty c = none-listed c.args.pairs.now _ _ (eqb-eq (sym c.is_empty.ensures ∙ c.if-is_empty.true))

pub returns-in-Some : goal.returns-in-Some
returns-in-Some c =
    let f = found-below _ _ c.requires.1 (Some c.in-Some.place) (rw (list-whole c.args.pairs.now c.requires.0) at c.in-Some.ensures) in
    clash-found c.args.pairs.now _ _ f.0 (omega (arith, f.1))

pub returns-in-None : goal.returns-in-None
returns-in-None c =
    let f = found-below _ _ c.requires.1 None (rw (list-whole c.args.pairs.now c.requires.0) at c.in-None.ensures) in
    clash-nowhere c.args.pairs.now _ _ f

pub overflow_cast-result : goal.overflow_cast-result
overflow_cast-result c = let f = c.in-Some.ensures in let b = c.args.blocks in omega (arith, f.2, b.counted, b.few)
