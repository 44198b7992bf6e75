-- `chain_start` meets its contract, by whether a table ends before the slot.
use Rattle.runs.proofs.walks.StartLaws.{start-here, start-past-chain, start-past-table}
use Rattle.runs.proofs.walks.chain_start.Goals.{then-table-at-via-then-table-at, then-table-at-via-else-table-at+then-before-at}
use Rattle.runs.proofs.walks.chain_start.Goals as goal

pub returns-then-table-at : goal.returns-then-table-at
returns-then-table-at c =
    let a = c.args in
    elim c.then-table-at.branch [
      | then-table-at-via-then-table-at w ↦
          start-past-table a.table.now a.last.now a.before.now a.run c.link_at-s.ensures c.from-at.ensures w.if-table-at.true
      | then-table-at-via-else-table-at+then-before-at w ↦
          start-past-chain a.table.now a.last.now a.before.now a.run c.link_at-s.ensures c.from-at.ensures w.if-before-at.true
    ]

pub returns : goal.returns
returns c =
    let a = c.args in
    start-here a.table.now a.last.now a.before.now a.run c.link_at-s.ensures c.from-at.ensures c.if-table-at.false c.if-before-at.false
