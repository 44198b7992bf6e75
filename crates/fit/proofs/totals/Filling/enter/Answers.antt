-- `enter` meets its contract: nothing is entered, or the row is found, or made.
use Prim.Native.Nat.{◌+◌, ◌<◌}
use lib.ListN.{get_or, length}
use mathlib.Core.Path.{◌≡◌, refl, sym}
use native.Mathlib.Omega.{arith}
use Rattle.std.specs.Prelude.{None, Some}
use Rattle.base.proofs.Tests.{eq-eqb, ne_eqb}
use Rattle.fit.proofs.totals.RowLaws.{bucket-pair, enter-found, enter-new, enter-other, found_none, found-row, rows-found, rows_new, small-other, small-set}
use Rattle.fit.specs.Totals.{RowAt, items_in}
use Rattle.fit.specs.code.Rows.{FoundRow, empty_row, pair_of}
use Rattle.fit.proofs.totals.Filling.enter.Goals.{After-put, In-None, In-Some}
use Rattle.fit.proofs.totals.Filling.enter.Goals as goal

pub returns-then-e-ne-GROUP : goal.returns-then-e-ne-GROUP
returns-then-e-ne-GROUP g c =
    (small-other c.requires.0, rw (ne_eqb c.if-e-ne-GROUP.true) (omega arith), λ es at T. enter-other at T c.if-e-ne-GROUP.true)

-- ---- the row is found

found : (g : _) (c : In-Some g) → FoundRow c.args.self.now.rows c.args.self.now.used c.from-owner.result c.link-link.result.0 (Some c.in-Some.r)
    × (c.link-link.result.0 < 65536)
found g c = let t = c.totals.ensures in rw (t.0, t.3) at c.in-Some.ensures

row : (g : _) (c : In-Some g) → RowAt c.args.self.now.rows c.args.self.now.used c.args.e.owner c.args.e.name c.in-Some.r
row g c = let f = found g c in found-row _ _ _ _ f.1 f.0.2 c.from-owner.ensures c.link-link.ensures f.0.0

room : (g : _) (c : In-Some g) → items_in (get_or c.args.self.now.rows c.in-Some.r 0) + 65536 < 4294967296
room g c = let w = row g c in omega (arith, c.requires.0.items _ w.from w.to, c.requires.1, c.args.self.now.kept.index.sized)

pub add_items-requires : goal.add_items-requires
add_items-requires g c =
    (room g (goal.at.add_items-requires g c).In-Some, omega (arith, c.requires.2, c.requires.1, c.args.self.now.kept.index.sized))

pub invariant_of-self : goal.invariant_of-self
invariant_of-self g c =
    let d = (goal.at.invariant_of-self g c).In-Some in
    let i = c.add_items in
    record { kept = rows-found c.args.self.now.kept i.result (row g d).to (omega (arith, i.ensures.0, room g d)) refl }

pub returns-in-Some : goal.returns-in-Some
returns-in-Some g c =
    let i = c.add_items in
    let d = (goal.at.returns-in-Some g c).In-Some in
    let f = found g d in
    let w = row g d in
    let few = room g d in
    let small = c.requires.0.items _ w.from w.to in (
      small-set c.requires.0 i.result f.0.1 (omega arith) (omega arith) (λ h. absurd (omega arith)) (omega (arith, i.ensures.0, few, small, i.ensures.1)) refl,
      rw (eq-eqb c.if-e-ne-GROUP.false) i.ensures.2,
      λ es at T. enter-found at T c.if-e-ne-GROUP.false (omega (arith, c.link-link.ensures, f.1)) i.ensures.1 w f.0.1 few i.ensures.0 refl,
    )

-- ---- a new row

none : (g : _) (c : In-None g) → FoundRow c.args.self.now.rows c.args.self.now.used c.from-owner.result c.link-link.result.0 None
    × (c.link-link.result.0 < 65536)
none g c = let t = c.totals.ensures in rw (t.0, t.3) at c.in-None.ensures

-- what the row is
made : (g : _) (c : After-put g) → c.add_items-in-None.result ≡ empty_row (pair_of c.args.e.owner c.args.e.name) + (c.args.e.number + 1)
made g c = omega (arith, c.add_items-in-None.ensures.0, c.pair_of-row.ensures.0, c.from-owner.ensures, c.link-link.ensures)

pub invariant_of-self-in-None : goal.invariant_of-self-in-None
invariant_of-self-in-None g c =
    let i = c.add_items-in-None in
    let r = c.requires in
    let b = bucket-pair g.row.MOST _ _ c.hash.ensures.0 c.from-owner.ensures c.link-link.ensures c.pair_of-row.ensures.2 in
    let y = made g (goal.at.invariant_of-self-in-None g c).After-put in
    record { kept = rows_new c.args.self.now.kept i.result (omega (arith, r.0.within, r.1)) (omega (arith, y, i.ensures.1)) b refl c.put.ensures }

pub returns-in-None : goal.returns-in-None
returns-in-None g c =
    let d = (goal.at.returns-in-None g c).After-put in
    let i = c.add_items-in-None in
    let r = c.requires in
    let f = none g (goal.at.returns-in-None g c).In-None in
    let small : c.args.e.name < 65536 = omega (arith, c.link-link.ensures, f.1) in
    let y = made g d in
    let there : c.args.self.now.used + 1 < length c.args.self.now.rows = omega (arith, r.0.within, r.1, c.args.self.now.kept.room) in (
      small-set r.0 i.result there (omega arith) (omega arith) (λ h. omega arith) (omega (arith, y, i.ensures.1)) refl,
      rw (eq-eqb c.if-e-ne-GROUP.false) i.ensures.2,
      λ es at T. enter-new at T c.if-e-ne-GROUP.false small i.ensures.1 (found_none _ _ _ _ f.1 (sym f.0) c.from-owner.ensures c.link-link.ensures refl) there y refl,
    )
