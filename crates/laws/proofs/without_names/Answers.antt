use Rattle.answers.proofs.Nameless.{comparison-nameless, fit-nameless, normal-nameless, own-bytes}
use Rattle.answers.proofs.NarrowestUnfolded.{narrowest-nameless}
use Rattle.laws.proofs.without_names.Goals as goal

pub returns : goal.returns
returns c = (
  own-bytes,
  λ P D s d m i n q. fit-nameless P D s d q i,
  λ P D d out m i n q. normal-nameless P D d out q i,
  λ P D c d out m i n j l q e. comparison-nameless P D c d out q i e j,
  λ P D a b out m i n j l q e. narrowest-nameless P D a b out q i e j,
)
