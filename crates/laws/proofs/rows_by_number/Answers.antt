use Rattle.answers.proofs.ByNumber.{catalogue-eight, dictionary-eight, fourteen, thirteen, twelve}
use Rattle.laws.proofs.rows_by_number.Goals as goal

pub returns : goal.returns
returns c = (dictionary-eight, catalogue-eight, twelve, thirteen, fourteen)
