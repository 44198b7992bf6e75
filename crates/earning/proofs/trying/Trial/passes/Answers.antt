-- `passes` meets its contract: the list that is left stands in the table, and is asked about.
use Prim.Native.Nat.{◌+◌, ℕ}
use lib.Dec.{eqb}
use lib.ListN.{take}
use mathlib.Core.List.{List, map}
use lib.Seq.{length-take-le}
use mathlib.Core.Path.{◌∙◌, ◌≡◌, ap, subst, sym}
use native.Mathlib.Omega.{arith}
use Rattle.blocks.specs.Entries.{entries_of}
use Rattle.blocks.specs.Promise.{Legal}
use Rattle.blocks.specs.declared.Entry.{Entry}
use Rattle.blocks.specs.declared.Schema.TheVariants.{Description}
use Rattle.earning.proofs.TriedLaws.{left, left-long, packed-taken, rows-back}
use Rattle.earning.specs.code.Tried.{Listed, front_in, rest_in, set_of}
use Rattle.meaning.specs.Failing.{failing}
use Rattle.pairs.specs.Pairs.{under}
use Rattle.unfolding.specs.code.Rows.{entry_of_row}
use Rattle.earning.proofs.trying.Trial.passes.Goals.{After-thin}
use Rattle.earning.proofs.trying.Trial.passes.Goals as goal

-- the numbers of the list that is left
abbrev numbers : After-thin → List ℕ
numbers c = take (c.args.tried.before + c.args.tried.count) c.thin.new.rows

stand : (c : After-thin) (pre es : List Entry) → Listed pre es c.args.tried.entries.now c.args.tried.before c.args.tried.count
    → map entry_of_row (numbers c) ≡ left pre es (set_of c.args.kept.now)
stand c pre es L =
    let K = set_of c.args.kept.now in
    let p = c.thin.ensures.left pre es L in
    rows-back (left pre es K) p.bounded
    (packed-taken (left pre es K) c.thin.new.rows (c.args.tried.before + c.args.tried.count) p (omega (arith, left-long pre es K, L.before, L.count)) (omega (arith, c.args.tried.few, c.thin.ensures.long)))

pub invariant_of-listing : goal.invariant_of-listing
invariant_of-listing c =
    let w = (goal.at.invariant_of-listing c).After-thin in
    let t = c.args.tried in
    record {
      legal = subst (λ (es : List Entry). Legal Description es)
          (sym (stand w (front_in t.entries.now t.before) (rest_in t.entries.now t.before t.count) t.listed)) (t.listed.legal (set_of c.args.kept.now));
      few = omega (arith, t.few, length-take-le (t.before + t.count) c.thin.new.rows (omega (arith, t.few, c.thin.ensures.long)));
    }

pub returns : goal.returns
unfolding entries_of failing
returns c = λ pre es L.
    let w = (goal.at.returns c).After-thin in
    let a = c.args in
    c.holds.ensures
    ∙ ap (λ (x : List Entry). eqb (failing (under a.service.exclusions.pairs.now) x (entries_of a.service.bytes.now)) 0) (stand w pre es L)
