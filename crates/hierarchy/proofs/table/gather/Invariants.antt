-- `gather` meets its contract: the last j bytes are gathered.
use Rattle.std.proofs.Common.{◌+◌, ◌-◌, ◌*◌, ◌<◌, ◌^◌, eqb, get_or}
use Rattle.hierarchy.specs.code.Words.{Told}
use Rattle.hierarchy.proofs.table.gather.Given as goal

abbrev pub invariant-loop-j : goal.invariant-loop-j
invariant-loop-j l = (l.word < 2 ^ l.j) × Told (λ k. eqb (get_or l.table (l.from + l.apart * (l.n - l.j + k)) 0) 1) l.j l.word
