-- `enter` meets its contract: the key has a number, or takes the free cell where the search for it ends.
use Rattle.std.proofs.Common.{ℕ, ◌<◌, ◌≤◌, ◌+◌, ◌*◌, ◌∙◌, length, sym, arith}
use Rattle.firsts.proofs.HeldLaws.{held-again, held-entered, held-full, held-more, held-none}
use Rattle.firsts.proofs.RoomLaws.{roomy}
use Rattle.firsts.specs.code.Held.{Sound, room_of}
use Rattle.firsts.proofs.firsts.Firsts.enter.Given.{Over}
use Rattle.firsts.proofs.firsts.Firsts.enter.Goals.{After-from-n, Then-used-room}
use Rattle.firsts.proofs.firsts.Firsts.enter.Goals as goal

-- where there is room
sound : {g : Over} (c : After-from-n g) → (let s = c.self.inside in Sound s.keys s.cells g.row.MOST s.used)
sound c = c.self.invariant.sound (omega (arith, c.room-room.ensures, c.if-room-eq0.false))

-- and for one key more
pub record More (most room used cells keys : ℕ) : Type 0 where
  pub more : used < room
  pub in_keys : used < keys
  pub in_cells : most + 2 * (used + 1) + 2 ≤ cells
  pub small : cells ≤ 65536

fits : {g : Over} (c : Then-used-room g)
    → More g.row.MOST (room_of g.row.MOST g.row.CELLS g.row.KEYS) c.self.inside.used (length c.self.inside.cells) (length c.self.inside.keys)
fits {g} c =
    let r = roomy g.row.MOST g.row.CELLS g.row.KEYS (omega (arith, c.room-room.ensures, c.if-room-eq0.false)) in
    let h : c.self.inside.used < room_of g.row.MOST g.row.CELLS g.row.KEYS = omega (arith, c.if-used-room.true, c.room-room.ensures) in
    record {
      more = h;
      in_keys = omega (arith, h, c.self.told2, r.in_keys);
      in_cells = omega (arith, h, c.self.told, r.in_cells);
      small = omega (arith, c.self.told, r.small);
    }

pub returns-then-room-eq0 : goal.returns-then-room-eq0
returns-then-room-eq0 g c =
    held-none c.self.invariant (sym c.room-room.ensures ∙ c.if-room-eq0.true) (sym c.self.view_is) c.args.key

pub returns-then-n-ne0 : goal.returns-then-n-ne0
returns-then-n-ne0 g c =
    let K = sound (goal.at.returns-then-n-ne0 g c).After-from-n in
    held-again K c.cell_for-c.ensures.0 c.from-n.ensures _ (sym c.self.view_is) c.if-n-ne0.true

pub bounds-self-inside-used : goal.bounds-self-inside-used
bounds-self-inside-used g c = omega (arith, (fits c).in_keys, c.self.told2)

pub overflow_cast-self : goal.overflow_cast-self
overflow_cast-self g c = let f = fits (goal.at.overflow_cast-self g c).Then-used-room in omega (arith, f.in_cells, f.small)

pub invariant_of-self : goal.invariant_of-self
invariant_of-self g c =
    let at = goal.at.invariant_of-self g c in
    let f = fits at.Then-used-room in
    let K = sound at.After-from-n in
    record {
      few = omega (arith, f.more);
      sound = λ h. held-more K c.cell_for-c.ensures.0 c.from-n.ensures c.if-n-ne0.false f.in_keys f.in_cells;
    }

pub returns-then-used-room : goal.returns-then-used-room
returns-then-used-room g c =
    let at = goal.at.returns-then-used-room g c in
    let f = fits at.Then-used-room in
    held-entered (sound at.After-from-n) c.cell_for-c.ensures.0 c.from-n.ensures c.if-n-ne0.false f.in_keys (sym c.self.view_is) f.more

pub returns-else-used-room : goal.returns-else-used-room
returns-else-used-room g c =
    let K = sound (goal.at.returns-else-used-room g c).After-from-n in
    held-full K c.cell_for-c.ensures.0 c.from-n.ensures (sym c.self.view_is) c.if-n-ne0.false
    (omega (arith, c.if-used-room.false, c.room-room.ensures))
