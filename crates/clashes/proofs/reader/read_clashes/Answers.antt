-- `read_clashes` meets its contract.
use Rattle.std.proofs.Common.{◌∙◌, ap, arith}
use Rattle.base.specs.Search.{first_from}
use Rattle.blocks.proofs.Refusing.Legal.{owner-earlier}
use Rattle.blocks.proofs.RoundTrip.Accepting.{sound-of-accepted}
use Rattle.blocks.proofs.RoundTrip.Faithful.{entries-whole}
use Rattle.blocks.specs.declared.Schema.TheVariants.{Specimen}
use Rattle.clashes.proofs.Ways.{by-clash, few-entries, list-few, many-entries, without-clash}
use Rattle.clashes.proofs.reader.read_clashes.Goals as goal

pub first_clash-requires : goal.first_clash-requires
first_clash-requires c =
    let p = c.requires in
    let same = c.from.ensures in
    let many = many-entries _ _ p.0 p.1 in
    let whole = entries-whole (sound-of-accepted Specimen 1 c.args.s.now p.1).blocks in
    (list-few _ p.0, omega (arith, few-entries _ _ p.0 p.1), omega (arith, many), omega (arith, many, whole), λ k lo hi. owner-earlier (sound-of-accepted Specimen 1 c.args.s.now p.1).entries k lo (omega (arith, many)))

pub returns-in-Some : goal.returns-in-Some
returns-in-Some c =
    let p = c.requires in
    let found = c.in-Some.ensures in
    by-clash _ _ p.0 p.1 (found.0 ∙ ap (first_from _ 1) c.from.ensures) (λ z. omega (arith, found.1))

pub returns-in-None : goal.returns-in-None
returns-in-None c =
    let p = c.requires in
    without-clash _ _ p.0 p.1 (ap (first_from _ 1) c.from.ensures) c.in-None.ensures
