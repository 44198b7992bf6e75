-- `read_pairs` meets its contract: the list's length, then its pairs.
use Rattle.std.proofs.Common.{refl, arith}
use Rattle.pairs.proofs.reader.PairLaws.{list-accepted, not-of-fours, pair-refused, too_many}
use Rattle.pairs.specs.Pairs.{pair_count}
use Rattle.pairs.proofs.reader.read_pairs.Goals as goal

pub returns-then-pairs-ne0 : goal.returns-then-pairs-ne0
returns-then-pairs-ne0 c = rw c.wrong_at.ensures (not-of-fours _ c.if-pairs-ne0.true)

pub returns-then-n-gt64 : goal.returns-then-n-gt64
unfolding pair_count
returns-then-n-gt64 c = rw c.wrong_at-then-n-gt64.ensures (too_many _ refl c.if-pairs-ne0.false c.if-n-gt64.true)

pub first_wrong-requires : goal.first_wrong-requires
unfolding pair_count
first_wrong-requires c = (omega arith, c.if-n-gt64.false)

pub returns-in-Some : goal.returns-in-Some
unfolding pair_count
returns-in-Some c =
    let found = c.in-Some.ensures in
    rw c.wrong_at-in-Some.ensures (pair-refused _ refl c.if-pairs-ne0.false c.if-n-gt64.false found.0 (λ z. omega (arith, found.1)))

pub returns-in-None : goal.returns-in-None
unfolding pair_count
returns-in-None c = list-accepted _ refl c.if-pairs-ne0.false c.if-n-gt64.false refl c.in-None.ensures
