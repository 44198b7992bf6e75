use Rattle.std.proofs.Common.{arith}
use Rattle.stored.proofs.FormsLaws.{both-forms, stored-exchange}
use Rattle.stored.proofs.PromiseKept.{restore-exactly, restore-unchanged, restores}
use Rattle.capi.proofs.gx_from_stored.Goals as goal

pub returns-clause-refuses : goal.returns-clause-refuses
returns-clause-refuses c = restore-exactly _ _

pub returns-clause-keeps : goal.returns-clause-keeps
returns-clause-keeps c = restore-unchanged _ _

pub returns-clause-means : goal.returns-clause-means
returns-clause-means c = λ n e. restores _ _ (record { small = λ k. omega (arith, c.type_inv.s k) }) e

pub returns-clause-exchanged : goal.returns-clause-exchanged
returns-clause-exchanged c = stored-exchange

pub returns-clause-both : goal.returns-clause-both
returns-clause-both c = both-forms
