use Rattle.answers.proofs.OneSetOfBytes.{accepted-one-set, equal-contained, one-set-of-bytes}
use Rattle.laws.proofs.one_set_of_bytes.Goals as goal

pub returns-clause-exactly : goal.returns-clause-exactly
returns-clause-exactly c = λ P D c E d out out' k k'. one-set-of-bytes P D c E d out out'

pub returns-clause-accepted : goal.returns-clause-accepted
returns-clause-accepted c = accepted-one-set

pub returns-clause-compared : goal.returns-clause-compared
returns-clause-compared c = λ P D c d out out' o o' k k'. equal-contained P D c d out out' o o'
