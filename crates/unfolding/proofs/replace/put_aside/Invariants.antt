-- `put_aside` meets its contract: the entries passed stand behind those that were there, each with its new owner.
use lib.ListN.{get_or, length}
use mathlib.Core.List.{◌++◌}
use mathlib.Core.Path.{◌≡◌}
use Rattle.base.proofs.Lists.{listed}
use Rattle.blocks.specs.Entries.{zero_entry}
use Rattle.unfolding.specs.code.Replacing.{again}
use Rattle.unfolding.proofs.replace.put_aside.Given as goal

abbrev pub invariant-loop-j : goal.invariant-loop-j
invariant-loop-j l =
    l.aside ≡ l.initial.aside ++ listed (λ i. again l.m (length l.initial.aside) (length l.initial.aside) (get_or l.initial.out i zero_entry)) l.m l.j
