-- `put_again` meets its contract: the entries passed stand behind those that were there, each with its new owner.
use lib.ListN.{get_or, length}
use mathlib.Core.List.{◌++◌}
use mathlib.Core.Path.{◌≡◌}
use Rattle.base.proofs.Lists.{listed}
use Rattle.blocks.specs.Entries.{zero_entry}
use Rattle.unfolding.specs.code.Replacing.{again}
use Rattle.unfolding.proofs.replace.put_again.Given as goal

abbrev pub invariant-loop-j : goal.invariant-loop-j
invariant-loop-j l = l.out ≡ l.initial.out ++ listed (λ i. again l.p (length l.initial.out) l.o (get_or l.initial.out i zero_entry)) l.p l.j
