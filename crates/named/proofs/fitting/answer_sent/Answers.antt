-- `answer_sent` meets its contract, by what `map_err` gives.
use Rattle.std.proofs.Common.{rules}
use Rattle.named.proofs.SentLaws.{sent-mapped}
use Rattle.named.proofs.fitting.answer_sent.Goals as goal

pub returns : goal.returns
returns c = sent-mapped c.args.d.now 2 c.args.answer (λ e x p. search rules) c.map_err.ensures.cases
