-- `narrowest_sent` meets its contract, by the answer for the plain descriptions.
use mathlib.Core.Path.{◌∙◌, ap, sym}
use Rattle.std.proofs.Common.{rules}
use Rattle.named.proofs.NarrowestLaws.{narrowest-sent, narrowest_by}
use Rattle.named.proofs.SentLaws.{sent-mapped}
use Rattle.named.specs.code.Sent.{sent_by}
use Rattle.named.proofs.narrowing.narrowest_sent.Goals as goal

pub returns : goal.returns
returns c =
    let r = c.narrowest-answer.ensures in
    let s = narrowest-sent c.args.pairs.now c.args.a.now c.args.b.now c.args.out.now in
    let m = sent-mapped c.args.a.now 1 c.narrowest-answer.result (λ e x p. search rules) c.map_err.ensures.cases in
    let n = sent-mapped c.args.b.now 2 c.map_err.result (λ e x p. search rules) c.map_err-2.ensures.cases in
    (n ∙ ap (sent_by c.args.b.now 2) m ∙ ap (narrowest_by c.args.a.now c.args.b.now) r.0 ∙ sym s.0, r.1 ∙ sym s.1)
