-- `is_sound` meets its contract.
use Rattle.std.proofs.Common.{◌∙◌, sym, arith}
use Rattle.drafts.proofs.SoundLaws.{few-entries}
use Rattle.desk.proofs.sound.is_sound.Goals as goal

pub area_drafted-requires : goal.area_drafted-requires
area_drafted-requires c =
    let few = few-entries c.args.desk (sym c.counters_ok.ensures ∙ c.if-not-counters_ok.false) in
    (omega (arith, few, c.if-memory-lt-SIZE.false), few)
