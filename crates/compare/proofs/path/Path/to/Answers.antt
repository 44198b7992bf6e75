use Prim.Native.Nat.{◌<◌, ℕ}
use lib.ListN.{length-replicate, length-set}
use mathlib.Core.Path.{◌∙◌, ◌≡◌, ap, refl}
use native.Mathlib.Omega.{arith}
use Rattle.blocks.proofs.Refusing.EntryLaws.{of-front}
use Rattle.blocks.specs.Entries.{entries_of, nth}
use Rattle.blocks.specs.Owners.{owner_of}
use Rattle.blocks.specs.declared.Entry.{Entry}
use Rattle.compare.proofs.path.PathLaws.{climbed-more, climbed-room, climbed-start, climbed-top, names_more, names-start}
use Rattle.compare.proofs.path.Path.to.Goals.{After-entry_held-e}
use Rattle.compare.proofs.path.Path.to.Goals as goal

-- the entry that is read is that of the list
entry_read : (c : After-entry_held-e)
    → c.entry_held-e.result ≡ nth (entries_of c.args.d.now) c.loop-o.o
entry_read c =
    c.entry_held-e.ensures ∙ of-front _ _ _ c.requires.3 (omega (arith, c.loop-o.invariant.0.before))

-- there is room for one link more
room : (c : After-entry_held-e) → c.loop-o.depth < 32
room c =
    omega (arith, climbed-room c.loop-o-test.true c.loop-o.invariant.0, c.requires.1)

pub loop-o-init : goal.loop-o-init
loop-o-init c =
    let p = c.requires in
    let e = c.entry_held-entry.ensures ∙ of-front _ _ _ p.3 (omega arith) in
    (climbed-start p.0 _ p.2 p.3 (c.from-o.ensures ∙ ap (λ (x : Entry). x.owner) e), omega arith, length-replicate {A = ℕ} 32 0, names-start refl)

pub keep_link-requires : goal.keep_link-requires
keep_link-requires c = omega (arith, room (goal.at.keep_link-requires c).After-entry_held-e)

pub loop-o-smaller : goal.loop-o-smaller
unfolding owner_of
loop-o-smaller c =
    let p = c.requires in
    let t = c.loop-o-test.true in
    let q = c.from-o-in-loop-o.ensures ∙ ap (λ (x : Entry). x.owner) (entry_read (goal.at.loop-o-smaller c).After-entry_held-e) in
    rw q (p.0.earlier c.loop-o.o (omega (arith, t)) (omega (arith, c.loop-o.invariant.0.before, p.3)))

pub loop-o-preserved : goal.loop-o-preserved
loop-o-preserved c =
    let p = c.requires in
    let i = c.loop-o.invariant in
    let t = c.loop-o-test.true in
    let b = room (goal.at.loop-o-preserved c).After-entry_held-e in
    let e = entry_read (goal.at.loop-o-preserved c).After-entry_held-e in
    rw c.keep_link.ensures (
      climbed-more p.0 t (omega (arith, i.0.before, p.3)) (omega (arith, b, i.2)) (c.link.ensures ∙ ap (λ (x : Entry). x.name) e)
          (c.from-o-in-loop-o.ensures ∙ ap (λ (x : Entry). x.owner) e) i.0,
      omega (arith, b),
      simp length-set i.2,
      names_more c.loop-o.links i.3 (omega (arith, b, i.2)) (let k = c.link.type_inv in omega (arith, k)),
    )

pub returns : goal.returns
returns c =
    let i = c.loop-o.invariant in
    (c.entry_held-entry.ensures ∙ of-front _ _ _ c.requires.3 (omega arith), climbed-top c.loop-o-test.false i.0, i.3)
