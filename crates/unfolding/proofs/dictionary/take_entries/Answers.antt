-- `take_entries` meets its contract: the entries are gone over, and what is too large is refused.
use Rattle.names.proofs.Legality.NamedReadings.{named-refused}
use Rattle.unfolding.proofs.KnownLaws.{checked_refused, checked-sound, read_taken, read-too-deep, read-too-many}
use native.Mathlib.Omega.{arith}
use Rattle.std.proofs.lemmas.Result.{err_from_is_err_and}
use Rattle.unfolding.proofs.dictionary.take_entries.Goals as goal

pub returns-then-x-gt1008 : goal.returns-then-x-gt1008
returns-then-x-gt1008 c K k =
    let f = checked-sound _ _ _ _ c.requires.3 _ _ (rw c.from.ensures at c.check.ensures) c.in_ok-x.was in
    read-too-many k _ _ (rw k.many at f.0) f.1.0 c.if-x-gt1008.true

pub returns-then-x-gt33 : goal.returns-then-x-gt33
returns-then-x-gt33 c K k =
    let f = checked-sound _ _ _ _ c.requires.3 _ _ (rw c.from.ensures at c.check.ensures) c.in_ok-x.was in
    read-too-deep k _ _ (rw k.many at f.0) f.1.1 c.if-x-gt33.true

pub returns-in_err-x : goal.returns-in_err-x
returns-in_err-x c K k =
    let f = checked_refused _ _ _ _ c.requires.3 _ _ (rw c.from.ensures at c.check.ensures) c.in_err-x.was in
    let p = err_from_is_err_and c.from_residual.result c.from_residual.ensures.1 in
    rw (p.1, p.2) (named-refused K _ _ (rw k.many at f))

pub returns : goal.returns
returns c K k =
    let f = checked-sound _ _ _ _ c.requires.3 _ _ (rw c.from.ensures at c.check.ensures) c.in_ok-x.was in
    read_taken k _ _ (rw k.many at f.0) f.1.0 f.1.1 (omega (arith, c.if-x-gt1008.false)) (omega (arith, c.if-x-gt33.false))
