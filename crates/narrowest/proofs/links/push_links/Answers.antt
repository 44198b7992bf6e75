-- `push_links` meets its contract: the links that are noted are put in order.
use lib.ListN.{length-map}
use lib.Seq.{length-take-le}
use mathlib.Core.Path.{◌∙◌, ap, sym}
use native.Mathlib.Omega.{arith}
use Rattle.narrowest.proofs.links.NoteLaws.{links-few}
use Rattle.narrowest.proofs.links.push_links.Goals as goal
use Rattle.narrowest.specs.code.Forms.{entries_in}
use Rattle.unfolding.specs.code.Rows.{entry_of_row}
use Rattle.sorting.specs.Sorted.{sorted}

pub slice_bounds-links-end : goal.slice_bounds-links-end
slice_bounds-links-end c =
    let p = c.args.pair in
    omega (
      arith,
      c.note_links-n.ensures.total,
      c.note_links-n.ensures.size,
      c.requires.2,
      length-map c.args.own.now entry_of_row,
      links-few (entries_in p.sides.first.form.rows.now) (entries_in p.sides.second.form.rows.now) p.mates.now p.sides.first.owner p.sides.second.owner (entries_in c.args.own.now),
    )

pub slice_bounds-links-end-2 : goal.slice_bounds-links-end-2
slice_bounds-links-end-2 c =
    let p = c.args.pair in
    let few = links-few (entries_in p.sides.first.form.rows.now) (entries_in p.sides.second.form.rows.now) p.mates.now p.sides.first.owner p.sides.second.owner (entries_in c.args.own.now) in
    sym (length-take-le c.note_links-n.result c.note_links-n.new.order
    (omega (arith, c.note_links-n.ensures.total, c.note_links-n.ensures.size, c.requires.2, length-map c.args.own.now entry_of_row, few)))

pub returns : goal.returns
returns c =
    let p = c.args.pair in
    let few = links-few (entries_in p.sides.first.form.rows.now) (entries_in p.sides.second.form.rows.now) p.mates.now p.sides.first.owner p.sides.second.owner (entries_in c.args.own.now) in
    let held = c.note_links-n.ensures.held (omega (arith, c.requires.2, length-map c.args.own.now entry_of_row, few)) in
    let e = c.sort.ensures ∙ ap sorted held in
    rw e at c.push_knots.ensures
