-- `keep_fitting` meets its contract: the marks are left by the entries of the place that are passed. It calls itself for later entries.
use Rattle.std.proofs.Common.{◌≡◌, ◌-◌, ◌&&◌, ◌<◌, ◌≤◌, ◌≢◌, ℕ, false, get_or, length}
use Rattle.blocks.specs.Entries.{entries_of}
use Rattle.blocks.specs.Owners.{owner_of}
use Rattle.items.proofs.MeetLaws.{asked}
use Rattle.items.specs.code.Record.{record_in}
use Rattle.items.specs.code.Record.{passed}
use Rattle.meaning.specs.Owned.{all_owned}
use Rattle.items.proofs.judge.+keep_fitting.Given as goal

abbrev pub decreases-keep_fitting : goal.decreases-keep_fitting
decreases-keep_fitting l = l.places.total - l.o

abbrev pub invariant-loop-at : goal.invariant-loop-at
invariant-loop-at l =
    let es = entries_of l.places.bytes.now in record {
      within : l.at ≤ length es;
      owned : l.at ≢ 0 → owner_of es l.at ≡ l.o;
      done : (x : ℕ) → x < 256 → get_or l.marks x false ≡ (get_or l.fn.marks x false && all_owned (asked (record_in l.facts.facts.now) es x) es l.o (passed es l.at));
    }

abbrev pub decreases-loop-at : goal.decreases-loop-at
decreases-loop-at l = length (entries_of l.places.bytes.now) - passed (entries_of l.places.bytes.now) l.at
