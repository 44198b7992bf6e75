-- `judge_list` meets its contract: the list of pairs is refused, or accepted and indexed, and then the dictionary is.
use mathlib.Core.List.{[]}
use mathlib.Core.Path.{◌∙◌, sym}
use Rattle.base.proofs.Tests.{eqb-eq}
use Rattle.pairs.proofs.IndexLaws.{list-whole}
use Rattle.pairs.proofs.PairsAccepted.{list-few}
use Rattle.pairs.proofs.Under.{ruled-under}
use Rattle.slots.proofs.catalogue.CatalogueLaws.{dictionary-refused, pairs-refused, pairs-taken}
use Rattle.std.proofs.lemmas.List.{nil_from_length}
use Rattle.std.proofs.lemmas.Result.{err_from_is_err_and}
use Rattle.slots.proofs.catalogue.judge_list.Goals as goal

pub returns-in_err-read_pairs : goal.returns-in_err-read_pairs
returns-in_err-read_pairs c =
    let p = err_from_is_err_and c.from_residual.result c.from_residual.ensures.1 in
    rw (p.1, p.2) (pairs-refused c.args.pairs.now c.args.dictionary.now c.args.c.now c.args.list.now c.args.answers.now (sym c.read_pairs.ensures ∙ c.in_err-read_pairs.was))

pub judge_supplied-requires : goal.judge_supplied-requires
judge_supplied-requires c =
    let e = sym c.read_pairs.ensures ∙ c.in_ok-read_pairs.was in
    let few = list-few _ e in
    rw (c.new-exclusions.ensures.listed ∙ list-whole _ few) (ruled-under _ e)

pub returns-then-is_empty : goal.returns-then-is_empty
returns-then-is_empty c =
    let e = sym c.read_pairs.ensures ∙ c.in_ok-read_pairs.was in
    let whole = c.new-exclusions.ensures.listed ∙ list-whole _ (list-few _ e) in
    let none = nil_from_length c.args.dictionary.now (eqb-eq (sym c.is_empty.ensures ∙ c.if-is_empty.true)) in
    rw none (pairs-taken c.args.pairs.now [] c.args.c.now c.args.list.now c.args.answers.now e (rw whole at c.judge_supplied.ensures))

pub returns-in_err-read : goal.returns-in_err-read
returns-in_err-read c =
    let p = err_from_is_err_and c.from_residual-in_err-read.result c.from_residual-in_err-read.ensures.1 in
    rw (p.1, p.2) (pairs-taken c.args.pairs.now c.args.dictionary.now c.args.c.now c.args.list.now c.args.answers.now (sym c.read_pairs.ensures ∙ c.in_ok-read_pairs.was)
    (dictionary-refused c.args.pairs.now c.args.dictionary.now c.args.c.now c.args.list.now c.args.answers.now c.in_err-read.ensures.refused))

pub judge_supplied-requires-2 : goal.judge_supplied-requires-2
judge_supplied-requires-2 c =
    let e = sym c.read_pairs.ensures ∙ c.in_ok-read_pairs.was in
    let few = list-few _ e in
    rw (c.new-exclusions.ensures.listed ∙ list-whole _ few) (ruled-under _ e)

pub returns : goal.returns
returns c =
    let e = sym c.read_pairs.ensures ∙ c.in_ok-read_pairs.was in
    let whole = c.new-exclusions.ensures.listed ∙ list-whole _ (list-few _ e) in
    pairs-taken c.args.pairs.now c.args.dictionary.now c.args.c.now c.args.list.now c.args.answers.now e (rw (whole, c.in_ok-read.ensures.accepted) at c.judge_supplied-2.ensures)
