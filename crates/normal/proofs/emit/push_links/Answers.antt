-- `push_links` meets its contract: the rows of the bounds and of 'every', from the tags of the links.
use Prim.Native.Nat.{◌+◌, ℕ}
use lib.ListN.{length, length-append}
use mathlib.Core.List.{◌++◌}
use mathlib.Core.Path.{◌∙◌, ◌≡◌, refl}
use native.Mathlib.Omega.{arith}
use Rattle.logic.specs.Place.{least, most}
use Rattle.normal.proofs.emit.ClassLaws.{bound-length, bounds-pushed, every-run, kind-run, placing-after, slots-run}
use Rattle.normal.proofs.emit.PushLaws.{less-now, pushed-total}
use Rattle.normal.proofs.ordering.RunLaws.{run-tagged}
use Rattle.normal.specs.code.Emitted.{bound_rows, cells_of, every_rows, kept_by, kind_rows}
use Rattle.normal.specs.declared.settled.Slots.{Slots}
use Rattle.normal.proofs.emit.push_links.Goals as goal

-- all rows that are pushed
total : (s : Slots) (o v : ℕ)
    → length (bound_rows o (cells_of s v) ++ every_rows (kept_by s) o (cells_of s v))
    ≡ length (kind_rows least o (cells_of s v)) + length (kind_rows most o (cells_of s v)) + length (every_rows (kept_by s) o (cells_of s v))
total s o v = omega (arith, length-append (bound_rows o (cells_of s v)) (every_rows (kept_by s) o (cells_of s v)), bound-length o (cells_of s v))

pub push_kind-k-requires : goal.push_kind-k-requires
push_kind-k-requires c =
    let s = c.args.slots.now in
    let O = c.link_run-n.ensures in
    let o = c.args.owner in
    (run-tagged s.runnable O, rw (kind-run s.table.now c.args.v O least o refl) (omega (arith, c.requires.3, total s o c.args.v)))

pub push_kind-m-requires : goal.push_kind-m-requires
push_kind-m-requires c =
    let s = c.args.slots.now in
    let O = c.link_run-n.ensures in
    let o = c.args.owner in
    let e = rw (kind-run s.table.now c.args.v O least o refl) at c.push_kind-k.ensures in
    (run-tagged s.runnable O, rw (kind-run s.table.now c.args.v O most o refl) (omega (arith, c.requires.3, total s o c.args.v, e.size, pushed-total (kind_rows least o (cells_of s c.args.v)) e)))

pub push_every-requires : goal.push_every-requires
push_every-requires c =
    let s = c.args.slots.now in
    let O = c.link_run-n.ensures in
    let o = c.args.owner in
    let v = c.args.v in
    let e = rw (kind-run s.table.now v O least o refl) at c.push_kind-k.ensures in
    let f = rw (kind-run s.table.now v O most o refl) at c.push_kind-m.ensures in
    let same = f.size ∙ e.size in (
      run-tagged s.runnable O,
      less-now same refl c.requires.2,
      rw (every-run s.table.now v O s.full.now o refl) (omega (arith, c.requires.3, total s o v, same, pushed-total (kind_rows least o (cells_of s v)) e, pushed-total (kind_rows most o (cells_of s v)) f)),
    )

pub returns : goal.returns
returns c =
    let s = c.args.slots.now in
    let O = c.link_run-n.ensures in
    let o = c.args.owner in
    let t = s.table.now in
    let v = c.args.v in
    let full = s.full.now in
    placing-after (bound_rows o (cells_of s v)) (every_rows (kept_by s) o (cells_of s v))
    (bounds-pushed o (cells_of s v) (rw (kind-run t v O least o refl) at c.push_kind-k.ensures) (rw (kind-run t v O most o refl) at c.push_kind-m.ensures))
    (rw (every-run t v O full o refl, slots-run t v O full refl) at c.push_every.ensures)
