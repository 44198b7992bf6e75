-- `read_services` meets its contract: what is known of the services passed, and that the rest gives the answer.
use Rattle.slots.proofs.ContainmentLaws.{ReadSoFar}
use Rattle.slots.proofs.containment.read_services.Given as goal

abbrev pub invariant-loop-part : goal.invariant-loop-part
invariant-loop-part l = ReadSoFar l.list l.of l.n l.at l.part-iterator
