-- `names_ok` meets its contract, schema by schema.
use Rattle.reading.proofs.rules.names_ok.Goals as goal

pub returns-in-Named : goal.returns-in-Named
returns-in-Named c = rw c.in-Named.is c.name_given.ensures
