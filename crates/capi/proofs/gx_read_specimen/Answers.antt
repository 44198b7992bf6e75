use Rattle.answers.proofs.Calls.{read_exactly}
use Rattle.capi.proofs.gx_read_specimen.Goals as goal

pub returns-clause-exactly : goal.returns-clause-exactly
returns-clause-exactly c = read_exactly _ _
