use Rattle.std.proofs.Common.{refl}
use Rattle.answers.proofs.NarrowestSheets.{sheets-answered}
use Rattle.logic.proofs.Records.Kept.{lawful-standing}
use Rattle.sheets.proofs.NarrowestRead.{narrowest-accepted}
use Rattle.laws.proofs.narrowest_of_sheets.Goals as goal

pub returns-clause-entries : goal.returns-clause-entries
returns-clause-entries c = λ c d n m rc rd R kept x inside. narrowest-accepted lawful-standing (λ p q. refl) c d rc rd R kept x inside

pub returns-clause-calls : goal.returns-clause-calls
returns-clause-calls c = λ D c d out l n m taken rc rd. sheets-answered D c d out taken rc rd
