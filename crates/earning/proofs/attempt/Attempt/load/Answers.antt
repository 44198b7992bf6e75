-- `load` meets its contract: first those that stay, and then those that are tried.
use Rattle.blocks.specs.Entries.{entries_of}
use Rattle.earning.proofs.AttemptLaws.{listed-both}
use Rattle.earning.proofs.attempt.Attempt.load.Goals as goal

pub returns : goal.returns
returns c =
    let a = c.args.self in
    listed-both (entries_of a.stays.bytes.now) (entries_of a.tried.bytes.now) a.stays.counted a.tried.counted a.stays.legal a.tried.legal
    c.load.ensures.loaded c.load-2.ensures.before c.load-2.ensures.loaded
