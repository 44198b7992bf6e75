-- `normalise_sent` meets its contract, by the answer for the plain description.
use mathlib.Core.Path.{◌∙◌, ap, sym}
use Rattle.std.proofs.Common.{rules}
use Rattle.named.proofs.SentLaws.{normal-sent, sent-mapped}
use Rattle.named.specs.code.Sent.{sent_by}
use Rattle.named.proofs.normalising.normalise_sent.Goals as goal

pub returns : goal.returns
returns c =
    let r = c.normalise.ensures in
    let s = normal-sent c.args.pairs.now c.args.d.now c.args.out.now in
    let m = sent-mapped c.args.d.now 1 c.normalise.result (λ e x p. search rules) c.map_err.ensures.cases in
    (m ∙ ap (sent_by c.args.d.now 1) r.0 ∙ sym s.0, r.1 ∙ sym s.1)
