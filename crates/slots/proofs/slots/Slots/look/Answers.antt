-- `look` meets its contract: beyond an at most 0 all holds; elsewhere the slot that was found decides.
use Prim.Native.Nat.{ℕ}
use lib.Dec.{eqb}
use mathlib.Core.Bool.{cond}
use mathlib.Core.List.{List}
use mathlib.Core.Path.{◌∙◌, ◌≡◌, ap, sym}
use native.Mathlib.Omega.{arith}
use Rattle.std.specs.Prelude.{unwrap_or}
use Rattle.base.proofs.Tests.{eq-eqb}
use Rattle.pairs.specs.Pairs.{under}
use Rattle.slots.proofs.states.BoundLaws.{looked-below, looked-holds}
use Rattle.passes.specs.code.Slots.{Slot}
use Rattle.slots.specs.code.States.{Indexed, entry_slot, holds_in_state, nowhere, passed, state_below}
use Rattle.slots.specs.code.Tables.{slots_in}
use Rattle.slots.proofs.slots.Slots.look.Goals.{After-holds_at}
use Rattle.slots.proofs.slots.Slots.look.Goals as goal

pub returns-then-state-eq-PASSED : goal.returns-then-state-eq-PASSED
unfolding holds_in_state state_below
returns-then-state-eq-PASSED g c = (omega arith, λ ss i. rw (holds_in_state, eq-eqb c.if-state-eq-PASSED.true), λ k ss i. rw (state_below, eq-eqb c.if-state-eq-PASSED.true))

-- the slot that was found is that of the entry in this state
slot-found : (g : _) (c : After-holds_at g) → (ss : List Slot) → Indexed ss c.args.self.table.now g.row.BUCKETS c.args.self.cells.now c.args.self.used
    → unwrap_or c.entry_slot-s.result 0 ≡ entry_slot ss c.args.state c.args.e
slot-found g c ss i = c.entry_slot-s.ensures.2 ss i ∙ ap (λ (v : ℕ). entry_slot ss v c.args.e) c.from-place.ensures

-- and whether it holds there is by its bounds, or beside them
held : (g : _) (c : After-holds_at g) → (ss : List Slot) → Indexed ss c.args.self.table.now g.row.BUCKETS c.args.self.cells.now c.args.self.used
    → c.holds_at.result ≡ holds_in_state (under c.args.marked.exclusions.pairs.now) ss c.args.state c.args.e
held g c ss i =
    let a = c.args in
    c.holds_at.ensures (slots_in a.self.table.now a.self.used) c.requires.1 ∙ rw c.from-place.ensures (sym (looked-holds i c.entry_slot-s.ensures.0 c.bounds-x.ensures c.if-state-eq-PASSED.false a.e (slot-found g c ss i) a.marked.exclusions.pairs.now))

pub returns-then-not-holds_at : goal.returns-then-not-holds_at
returns-then-not-holds_at g c =
    (tt, λ ss i. sym c.if-not-holds_at.true ∙ held g (goal.at.returns-then-not-holds_at g c).After-holds_at ss i, λ k ss i. tt)

pub returns : goal.returns
returns g c =
    let s : ℕ = unwrap_or c.entry_slot-s.result 0 in (
      c.state_below.ensures.1,
      λ ss i. sym c.if-not-holds_at.false ∙ held g (goal.at.returns g c).After-holds_at ss i,
      λ k ss i. looked-below i c.entry_slot-s.ensures.0 c.bounds-x.ensures c.if-state-eq-PASSED.false c.args.e (slot-found g (goal.at.returns g c).After-holds_at ss i) k
          (c.state_below.ensures.0 ∙ ap (λ (h : ℕ). cond (eqb s 0) nowhere (cond (eqb h 0) passed s)) c.high_in.ensures.0),
    )
