-- `parts_in` meets its contract: there are no more parts than bytes, so that their count fits.
use Rattle.std.proofs.Common.{ap, arith, inl, length}
use Rattle.lists.proofs.PartLaws.{parts-short}
use Rattle.lists.proofs.parts.parts_in.Goals as goal

pub count-requires-clause-fits : goal.count-requires-clause-fits
count-requires-clause-fits c = inl (omega (arith, ap length c.of.ensures, parts-short c.args.s.now))
