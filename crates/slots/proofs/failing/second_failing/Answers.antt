-- `second_failing` meets its contract: the second is refused, or both are accepted.
use mathlib.Core.Path.{◌∙◌, ap, sym}
use Rattle.blocks.specs.declared.Schema.TheVariants.{Description}
use Rattle.names.proofs.Legality.AcceptedReadings.{any-input}
use Rattle.std.specs.Prelude.{Ok}
use Rattle.pairs.specs.Pairs.{under}
use Rattle.slots.proofs.failing.JudgingLaws.{judging-second}
use Rattle.std.proofs.lemmas.Result.{err_from_is_err_and}
use Rattle.slots.proofs.failing.second_failing.Goals as goal

pub returns-in_err-m : goal.returns-in_err-m
returns-in_err-m c =
    let p = err_from_is_err_and c.from_residual.result c.from_residual.ensures.1 in
    rw (p.1, p.2) (judging-second (under _) _ _ _ c.args.c.read (sym c.read.ensures ∙ c.in_err-m.was))

pub invariant_of-second : goal.invariant_of-second
invariant_of-second c = record { read = any-input Description 2 1 _ (sym c.read.ensures ∙ c.in_ok-m.was ∙ ap Ok (sym c.from.ensures)) }
