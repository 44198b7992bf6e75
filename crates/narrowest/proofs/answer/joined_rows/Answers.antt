-- `joined_rows` meets its contract: the mates are found, and the places are walked over.
use Prim.Native.Nat.{◌+◌, ℕ}
use lib.ListN.{length, length-replicate, replicate}
use lib.Seq.{take_all}
use mathlib.Core.Path.{◌∙◌, ◌≡◌, ap, sym}
use native.Mathlib.Omega.{arith}
use Rattle.pairs.proofs.PairsAccepted.{pairs-right}
use Rattle.narrowest.proofs.answer.joined_rows.Goals as goal

pub drop_empty-requires : goal.drop_empty-requires
drop_empty-requires c =
    let P = c.args.pairs.now in
    let R = pairs-right P c.requires.0.list.list_read in
    let e : c.new.result.pairs.now ≡ P = c.new.ensures.listed ∙ take_all 259 P (omega (arith, R.whole, R.few)) in
    (omega (arith, c.find_mates.auto, c.args.first.held.few, length-replicate {A = ℕ} 1009 0), rw e c.requires.0, c.find_mates.ensures)

pub write_rows-requires : goal.write_rows-requires
write_rows-requires c =
    let P = c.args.pairs.now in
    let R = pairs-right P c.requires.0.list.list_read in
    let e : c.new.result.pairs.now ≡ P = c.new.ensures.listed ∙ take_all 259 P (omega (arith, R.whole, R.few)) in
    let n : length c.args.rows.now + 1 ≡ 1009 = omega (arith, c.requires.1) in (
      ap (λ (k : ℕ). replicate k 0) (sym n),
      omega (arith, length-replicate {A = ℕ} 1136 0),
      omega (arith, c.requires.1),
      omega (arith, c.find_mates.auto, c.drop_empty.auto, c.args.first.held.few, length-replicate {A = ℕ} 1009 0),
      record { joinable = rw e c.requires.0; mates = c.find_mates.new.mates; mated = c.find_mates.ensures; settled = c.drop_empty.ensures },
    )

pub returns : goal.returns
returns c =
    let P = c.args.pairs.now in
    let R = pairs-right P c.requires.0.list.list_read in
    let e : c.new.result.pairs.now ≡ P = c.new.ensures.listed ∙ take_all 259 P (omega (arith, R.whole, R.few)) in
    rw e at c.write_rows.ensures
