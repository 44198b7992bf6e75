-- `each_failing` meets its contract: the pairs, the first or the second is refused, or all are accepted.
use Rattle.std.specs.Prelude.{Ok}
use mathlib.Core.Path.{◌∙◌, ap, sym}
use Rattle.blocks.specs.declared.Schema.TheVariants.{Description}
use Rattle.names.proofs.Legality.AcceptedReadings.{any-input}
use Rattle.pairs.proofs.IndexLaws.{list-whole}
use Rattle.pairs.proofs.PairsAccepted.{list-few}
use Rattle.pairs.proofs.Under.{ruled-under}
use Rattle.std.proofs.lemmas.Result.{err_from_is_err_and}
use Rattle.slots.proofs.each.EachLaws.{each-first, each-judged, each-list, each-second}
use Rattle.slots.proofs.each.each_failing.Goals as goal

pub returns-in_err-read_pairs : goal.returns-in_err-read_pairs
returns-in_err-read_pairs c =
    let p = err_from_is_err_and c.from_residual.result c.from_residual.ensures.1 in
    rw (p.1, p.2) (each-list _ _ _ _ (sym c.read_pairs.ensures ∙ c.in_err-read_pairs.was))

pub returns-in_err-n : goal.returns-in_err-n
returns-in_err-n c =
    let p = err_from_is_err_and c.from_residual-in_err-n.result c.from_residual-in_err-n.ensures.1 in
    rw (p.1, p.2) (each-first _ _ _ _ (sym c.read_pairs.ensures ∙ c.in_ok-read_pairs.was) (sym c.read.ensures ∙ c.in_err-n.was))

pub returns-in_err-m : goal.returns-in_err-m
returns-in_err-m c =
    let p = err_from_is_err_and c.from_residual-in_err-m.result c.from_residual-in_err-m.ensures.1 in
    rw (p.1, p.2)
    (each-second _ _ _ _ (sym c.read_pairs.ensures ∙ c.in_ok-read_pairs.was) (sym c.read.ensures ∙ c.in_ok-n.was) (sym c.read-2.ensures ∙ c.in_err-m.was))

pub invariant_of-first : goal.invariant_of-first
invariant_of-first c = record { read = sym c.read.ensures ∙ c.in_ok-n.was ∙ ap Ok (sym c.from.ensures) }

pub invariant_of-second : goal.invariant_of-second
invariant_of-second c = record { read = any-input Description 2 1 _ (sym c.read-2.ensures ∙ c.in_ok-m.was ∙ ap Ok (sym c.from-2.ensures)) }

pub each_read-contained-requires : goal.each_read-contained-requires
each_read-contained-requires c =
    let e = sym c.read_pairs.ensures ∙ c.in_ok-read_pairs.was in
    rw (c.new-exclusions.ensures.listed ∙ list-whole _ (list-few _ e)) (ruled-under _ e)

pub returns : goal.returns
returns c =
    let e = sym c.read_pairs.ensures ∙ c.in_ok-read_pairs.was in
    let whole = c.new-exclusions.ensures.listed ∙ list-whole _ (list-few _ e) in
    let r = rw whole at c.each_read-contained.ensures in
    each-judged _ _ _ _ e (sym c.read.ensures ∙ c.in_ok-n.was) (sym c.read-2.ensures ∙ c.in_ok-m.was) r.0 r.1
