-- `fit_sent` meets its contract, by the answer for the plain description.
use mathlib.Core.Path.{◌∙◌, ap, sym}
use Rattle.named.proofs.SentLaws.{fit-sent}
use Rattle.named.specs.code.Sent.{sent_by}
use Rattle.named.proofs.fitting.fit_sent.Goals as goal

pub returns : goal.returns
returns c =
    c.answer_sent.ensures ∙ ap (sent_by c.args.d.now 2) c.fit.ensures ∙ sym (fit-sent c.args.pairs.now c.args.s.now c.args.d.now)
