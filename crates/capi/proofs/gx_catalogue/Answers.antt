use Rattle.answers.proofs.CatalogueFilled.{fills}
use Rattle.answers.proofs.CatalogueOrder.{catalogue-refused-exactly, catalogue-unchanged}
use Rattle.capi.proofs.gx_catalogue.Goals as goal

pub returns-clause-refuses : goal.returns-clause-refuses
returns-clause-refuses c = catalogue-refused-exactly _ _ _ _ _

pub returns-clause-keeps : goal.returns-clause-keeps
returns-clause-keeps c = catalogue-unchanged _ _ _ _ _

pub returns-clause-means : goal.returns-clause-means
returns-clause-means c = fills _ _ _ _ _
