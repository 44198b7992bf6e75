-- `thin` meets its contract: the entries before those that are tried are as they are, and those gone over as they are left.
use Rattle.std.specs.Prelude.{ℕ, List, ◌≡◌, ◌<◌, ◌+◌, get_or, length, suc}
use Rattle.blocks.specs.Entries.{nth, packed}
use Rattle.blocks.specs.declared.Entry.{Entry}
use Rattle.earning.specs.code.Tried.{Listed, set_of}
use Rattle.narrow.proofs.Keeping.Thinned.{left_at}
use Rattle.earning.proofs.tried.Tried.thin.Given as goal

abbrev pub invariant-loop-i : goal.invariant-loop-i
invariant-loop-i l = record {
  long : length l.rows ≡ 1008;
  front : (j : ℕ) → j < l.self.before → get_or l.rows j 0 ≡ get_or l.self.entries.now j 0;
  done : (pre es : List Entry) → Listed pre es l.self.entries.now l.self.before l.self.count
      → (m : ℕ) → m < l.i → get_or l.rows (l.self.before + m) 0 ≡ packed (left_at (set_of l.kept) (suc m) (nth es (suc m)));
}
