-- `put_entry` meets its contract.
use Rattle.drafts.proofs.StoreLaws.{entry-stored}
use Rattle.desk.proofs.stores.put_entry.Goals as goal

pub returns : goal.returns
returns c = entry-stored c.args.memory.now c.args.at c.args.e c.put.ensures c.put_word.ensures c.put_word-2.ensures c.put_word-3.ensures
