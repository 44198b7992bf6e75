-- `compare_sent` meets its contract, by the answer for the plain descriptions.
use mathlib.Core.Path.{◌∙◌, ap, sym}
use Rattle.std.proofs.Common.{rules}
use Rattle.named.proofs.SentLaws.{comparison-sent, comparison_by, sent-mapped}
use Rattle.named.specs.code.Sent.{sent_by}
use Rattle.named.proofs.comparing.compare_sent.Goals as goal

pub returns : goal.returns
returns c =
    let r = c.compare-answer.ensures in
    let s = comparison-sent c.args.pairs.now c.args.c.now c.args.d.now c.args.out.now in
    let m = sent-mapped c.args.c.now 1 c.compare-answer.result (λ e x p. search rules) c.map_err.ensures.cases in
    let n = sent-mapped c.args.d.now 2 c.map_err.result (λ e x p. search rules) c.map_err-2.ensures.cases in
    (n ∙ ap (sent_by c.args.d.now 2) m ∙ ap (comparison_by c.args.c.now c.args.d.now) r.0 ∙ sym s.0, r.1 ∙ sym s.1)
