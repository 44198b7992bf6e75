-- `specimen_fault` meets its contract: numbers 4 to 6, unless an earlier entry breaks 9.
use Rattle.std.proofs.Common.{◌≡◌, ◌≢◌, ◌≤◌, ◌∙◌, ap, refl, sym, arith}
use Rattle.base.proofs.SearchLaws.{first-within}
use Rattle.base.specs.Search.{first_from}
use Rattle.blocks.proofs.Refusing.SingleFirst.{before-within, single-found, single-nowhere}
use Rattle.blocks.proofs.Refusing.SingleSearch.{place-none, place-some}
use Rattle.blocks.specs.Entries.{entries_of}
use Rattle.blocks.specs.Faults.{first}
use Rattle.blocks.specs.Reading.{answer}
use Rattle.blocks.specs.Single.{single_ok}
use Rattle.blocks.specs.code.ReadingSteps.{rule_faults}
use Rattle.blocks.specs.code.SingleSteps.{stand_before}
use Rattle.blocks.specs.declared.Schema.TheVariants.{Specimen}
use Rattle.reading.proofs.single.specimen_fault.Goals.{After-stand_before, In-Some}
use Rattle.reading.proofs.single.specimen_fault.Goals as goal

-- how many stand before what was found
before : (c : After-stand_before) → c.stand_before.result ≡ stand_before c.args.total (first (rule_faults Specimen (entries_of c.args.s.now) 1 c.args.total))
before c = c.stand_before.ensures c.args.input _ c.first_rule_fault-found.ensures

-- the entries before what was found are entries
within : (c : After-stand_before) → c.stand_before.result ≤ c.args.total
within c = omega (arith, before c, before-within (entries_of c.args.s.now) c.args.total {f = _} refl)

pub first_double-requires : goal.first_double-requires
first_double-requires c =
    let p = c.requires in
    let w = within (goal.at.first_double-requires c).After-stand_before in
    (omega (arith, p.0), omega (arith, p.1), omega (arith, p.2))

-- what is found is the first before it
found : (c : In-Some) → (first_from (single_ok (entries_of c.args.s.now)) 1 c.stand_before.result ≡ c.in-Some.d) × (c.in-Some.d ≢ 0)
found c = place-some _ (sym c.in-Some.is ∙ c.first_double.ensures)

pub overflow_cast-result : goal.overflow_cast-result
overflow_cast-result c =
    let f = found c in
    omega (arith, f.0, first-within (single_ok (entries_of c.args.s.now)) 1 c.stand_before.result, c.stand_before.ensures c.args.input _ c.first_rule_fault-found.ensures, before-within (entries_of c.args.s.now) c.args.total {f = _} refl, c.requires.1)

pub returns-in-None : goal.returns-in-None
returns-in-None c =
    c.first_rule_fault-found.ensures
    ∙ ap (answer c.args.input tt) (single-nowhere (entries_of c.args.s.now) c.args.total refl
    (ap (first_from (single_ok (entries_of c.args.s.now)) 1) (c.stand_before.ensures c.args.input _ c.first_rule_fault-found.ensures))
    (place-none _ (sym c.in-None.is ∙ c.first_double.ensures)))

pub returns-in-Some : goal.returns-in-Some
returns-in-Some c =
    let f = found c in
    ap (answer c.args.input tt) (single-found (entries_of c.args.s.now) c.args.total refl
    (sym f.0 ∙ ap (first_from (single_ok (entries_of c.args.s.now)) 1) (c.stand_before.ensures c.args.input _ c.first_rule_fault-found.ensures)) f.1)
