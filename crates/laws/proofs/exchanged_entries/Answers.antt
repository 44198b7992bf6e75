use Rattle.laws.proofs.Numbers.{exchange_otherwise, exchange_refused}
use Rattle.laws.proofs.exchanged_entries.Goals as goal

pub returns-clause-refused : goal.returns-clause-refused
returns-clause-refused c = exchange_refused

pub returns-clause-otherwise : goal.returns-clause-otherwise
returns-clause-otherwise c = exchange_otherwise
