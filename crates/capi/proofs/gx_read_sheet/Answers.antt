use Rattle.sheets.proofs.PromiseKept.{first-line, sheet-read}
use Rattle.capi.proofs.gx_read_sheet.Goals as goal

pub returns-clause-refuses : goal.returns-clause-refuses
returns-clause-refuses c = first-line _

pub returns-clause-means : goal.returns-clause-means
returns-clause-means c = sheet-read _
