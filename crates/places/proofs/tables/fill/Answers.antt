-- `fill` meets its contract.
use Rattle.std.proofs.Common.{◌≡◌, ◌≤◌, ◌<◌, ◌∙◌, ap, ℕ, length, length-set, get_or-set_same, arith}
use Rattle.blocks.proofs.Refusing.Legal.{owner-earlier}
use Rattle.blocks.specs.Entries.{entries_of}
use Rattle.blocks.specs.Owners.{owner_of}
use Rattle.blocks.specs.declared.Entry.{Entry}
use Rattle.places.proofs.PlaceLaws.{chained-all, chained-more, chained-start}
use Rattle.places.proofs.tables.fill.Goals.{After-from-o}
use Rattle.places.proofs.tables.fill.Goals as goal

-- the turn: its entry, which its owner stands before
pub record Turn (c : After-from-o) : Type 0 where
  pub some : 1 ≤ c.loop-n.n
  pub owner : c.from-o.result ≡ owner_of (entries_of c.args.d.now) c.loop-n.n
  pub early : c.from-o.result < c.loop-n.n

turn : (c : After-from-o) → Turn c
unfolding owner_of
turn c =
    let some : 1 ≤ c.loop-n.n = omega (arith, c.loop-n-test.true) in
    let o = c.from-o.ensures ∙ ap (λ (x : Entry). x.owner) (c.enter.ensures.numbered c.loop-n.n (omega (arith, c.loop-n.invariant.counted, c.requires.0))) in
    record { some = some; owner = o; early = omega (arith, o, owner-earlier c.requires.3 c.loop-n.n some c.loop-n.invariant.counted) }

pub loop-n-init : goal.loop-n-init
loop-n-init c =
    chained-start _ _ c.requires.0 (omega (arith, c.enter.auto.first, c.requires.0, c.requires.5)) (rw (length-set c.args.next.now 0 0) (omega (arith, c.requires.0, c.requires.6)))
    c.enter.ensures.empty (get_or-set_same c.args.next.now 0 0 0 (omega (arith, c.requires.6)))

pub bounds-first-o : goal.bounds-first-o
bounds-first-o c =
    let t = turn (goal.at.bounds-first-o c).After-from-o in
    omega (arith, t.early, c.loop-n.invariant.counted, c.loop-n.invariant.size)

pub bounds-first-o-in-loop-n : goal.bounds-first-o-in-loop-n
bounds-first-o-in-loop-n c =
    let t = turn (goal.at.bounds-first-o-in-loop-n c).After-from-o in
    omega (arith, t.early, c.loop-n.invariant.counted, c.loop-n.invariant.size)

pub loop-n-preserved : goal.loop-n-preserved
loop-n-preserved c =
    let t = turn (goal.at.loop-n-preserved c).After-from-o in
    chained-more _ _ _ _ _ c.loop-n.invariant t.some t.owner t.early

pub returns : goal.returns
returns c =
    chained-all _ _ _ _ (omega (arith, c.loop-n-test.false)) (λ k h. c.enter.ensures.numbered k (omega (arith, c.requires.0))) c.loop-n.invariant
