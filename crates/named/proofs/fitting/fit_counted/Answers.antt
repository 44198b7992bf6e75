-- `fit_counted` meets its contract, by the answer for the plain description.
use Rattle.named.proofs.SentLaws.{counted-sent}
use Rattle.named.proofs.fitting.fit_counted.Goals as goal

pub returns : goal.returns
returns c =
    counted-sent c.args.s.now c.args.d.now c.fit_counted-counted.ensures c.answer_sent-sent.ensures
