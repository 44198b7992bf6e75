-- `read_parts` meets its contract: what the parts passed leave in the tables, and that the rest gives the answer.
use Rattle.unfolding.proofs.DictionaryRead.{Passed}
use Rattle.unfolding.proofs.dictionary.read_parts.Given as goal

abbrev pub invariant-loop-part : goal.invariant-loop-part
invariant-loop-part l = Passed l.bytes l.tables l.at l.part-iterator
