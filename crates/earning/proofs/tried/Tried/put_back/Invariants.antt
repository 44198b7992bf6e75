-- `put_back` meets its contract: the entries gone over are put back.
use Rattle.std.specs.Prelude.{ℕ, List, ◌≡◌, ◌<◌, ◌&&◌, cond, get_or, ltb, true}
use Rattle.blocks.specs.declared.Entry.{Entry}
use Rattle.earning.specs.code.Tried.{Listed}
use Rattle.narrow.specs.Earned.{sayers}
use Rattle.earning.proofs.tried.Tried.put_back.Given as goal

abbrev pub invariant-loop-k : goal.invariant-loop-k
invariant-loop-k l = (l.from < l.k) × ((pre es : List Entry) → Listed pre es l.self.entries.now l.self.before l.self.count
    → (j : ℕ) → get_or l.kept j true ≡ cond (ltb l.from j && ltb j l.k) (sayers es j) (get_or l.initial.kept j true))
