-- `area_drafted` meets its contract.
use Rattle.std.proofs.Common.{◌+◌, ◌*◌, ◌∙◌, ◌≤◌, ap, subst, ℕ, List, length, arith}
use Rattle.blocks.specs.code.ReadingSteps.{Levels}
use Rattle.blocks.specs.declared.Entry.{Entry}
use Rattle.blocks.specs.declared.Schema.TheVariants.{Description}
use Rattle.drafts.proofs.DraftedLaws.{area-entries, area-length, entries_in}
use Rattle.drafts.specs.Memory.{entries_at}
use Rattle.drafts.specs.Sound.{drafted}
use Rattle.desk.proofs.sound.area_drafted.Goals as goal

pub returns-clause-tells : goal.returns-clause-tells
returns-clause-tells c =
    c.rows_drafted.ensures.tells
    ∙ ap drafted (area-entries c.args.memory.now c.args.at c.from.result (omega (arith, c.from.ensures, c.requires.0)) c.as_chunks.ensures.front
    ∙ ap (entries_at c.args.memory.now c.args.at) c.from.ensures)

pub returns-clause-levels : goal.returns-clause-levels
returns-clause-levels c = λ z.
    let fits : c.args.at + 8 * c.from.result ≤ length c.args.memory.now = omega (arith, c.from.ensures, c.requires.0) in
    let e = area-entries c.args.memory.now c.args.at c.from.result fits c.as_chunks.ensures.front ∙ ap (entries_at c.args.memory.now c.args.at) c.from.ensures in
    let n = area-length c.args.memory.now c.args.at c.from.result fits c.as_chunks.ensures.front ∙ c.from.ensures in
    subst (λ (es : List Entry). Levels Description es c.rows_drafted.new.level (c.args.count + 1)) e
    (subst (λ (k : ℕ). Levels Description (entries_in c.as_chunks.result.0.now) c.rows_drafted.new.level (k + 1)) n (c.rows_drafted.ensures.levels z))
