-- `put_words` meets its contract.
use Rattle.std.proofs.Common.{arith}
use Rattle.drafts.proofs.StoreLaws.{words-all, words-start, words-step}
use Rattle.desk.proofs.buffer.put_words.Goals as goal

pub loop-j-init : goal.loop-j-init
loop-j-init c = words-start c.args.words.now _

pub loop-j-preserved : goal.loop-j-preserved
loop-j-preserved c = words-step c.args.words.now c.args.buffer.now c.loop-j.j (omega arith) c.loop-j.invariant c.put_word.ensures

pub returns : goal.returns
returns c = words-all c.args.words.now c.args.buffer.now c.loop-j-test.false c.loop-j.invariant
