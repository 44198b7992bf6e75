-- `is_contained` meets its contract: the comparison of accepted inputs answers.
use Prim.Native.Nat.{ℕ}
use lib.ListN.{length-replicate}
use mathlib.Core.Path.{◌≡◌}
use native.Mathlib.Omega.{arith}
use Rattle.blocks.specs.Reading.{reading_of}
use Rattle.blocks.specs.declared.Schema.TheVariants.{Description}
use Rattle.earning.proofs.TrialLaws.{accepted, none-left, not-refused}
use Rattle.missing.proofs.AnswerLaws.{holding-both}
use Rattle.narrow_listed.proofs.AcceptedLegal.{few-read}
use Rattle.pairs.specs.Pairs.{pairs_reading}
use Rattle.missing.proofs.asking.is_contained.Goals as goal

pub returns-in-Ok : goal.returns-in-Ok
returns-in-Ok c =
    let a = c.args in
    accepted (pairs_reading a.service.pairs.now) a.service.listed (λ j l. accepted (reading_of Description 1 a.c.now) c.requires (λ n r. accepted (reading_of Description 2 a.service.d.now) a.service.read (λ m q.
    none-left _ _ (holding-both a.service.pairs.now a.c.now a.service.d.now l r q c.first_failing.ensures.0 (omega (arith, length-replicate {A = ℕ} 1009 0, few-read 1 a.c.now r))) c.in-Ok.is c.is_none.ensures)))

pub returns-in-Err : goal.returns-in-Err
returns-in-Err c =
    let a = c.args in
    accepted (pairs_reading a.service.pairs.now) a.service.listed (λ j l. accepted (reading_of Description 1 a.c.now) c.requires (λ n r. accepted (reading_of Description 2 a.service.d.now) a.service.read (λ m q.
    not-refused _ _ (holding-both a.service.pairs.now a.c.now a.service.d.now l r q c.first_failing.ensures.0 (omega (arith, length-replicate {A = ℕ} 1009 0, few-read 1 a.c.now r))) c.in-Err.is)))
