-- `fits_place` and `meets_entry` meet their contracts. A call from a place to an entry of it leaves as many levels, and
-- its measure is the entry's number; a call from an entry to the place that it owns leaves one level fewer. The counter
-- of additions comes back as it was.
use Prim.Native.Nat.{◌+◌, ◌*◌, ◌-◌}
use mathlib.Core.Path.{◌≡◌}
use Rattle.blocks.specs.Entries.{entries_of}
use Rattle.blocks.specs.declared.Schema.TheVariants.{Description, Specimen}
use Rattle.fit.proofs.index.BucketWalk.{Passing}
use Rattle.fit.specs.code.Groups.{fits_place, meets_entry, own_fits}
use Rattle.fit.specs.code.Index.{hash_of}
use Rattle.fit.proofs.judge.+fits_place_meets_entry.Given as goal

abbrev pub decreases-fits_place : goal.decreases-fits_place
decreases-fits_place l = 2048 * l.left + 2048

abbrev pub decreases-meets_entry : goal.decreases-meets_entry
decreases-meets_entry l = 2048 * l.left + l.e

-- fitting a place: what the entries left ask is what the place asks, and nothing was added
abbrev pub invariant-fits_place-loop-e : goal.invariant-fits_place-loop-e
invariant-fits_place-loop-e l =
    let es = entries_of l.known.items.bytes.now in
    let d = l.known.places in
    let ds = entries_of d.bytes.now in
    Passing Description d.most d.bytes.now (meets_entry l.left es ds l.g) l.o (fits_place l.left es ds l.g l.o)
    d.index.now l.e-iterator.table.now l.e-iterator.most l.e-iterator.next × (l.adds ≡ l.initial.adds)

-- meeting an entry: what the groups left ask is what the entry asks, and nothing was added
abbrev pub invariant-meets_entry-loop-h : goal.invariant-meets_entry-loop-h
invariant-meets_entry-loop-h l =
    let s = l.known.items in
    let es = entries_of s.bytes.now in
    let ds = entries_of l.known.places.bytes.now in
    Passing Specimen s.most s.bytes.now (own_fits (l.left - 1) es ds l.e l.g l.link.0) (hash_of s.most l.g 7 l.link.0)
    (meets_entry l.left es ds l.g l.e) s.index.now l.h-iterator.table.now l.h-iterator.most l.h-iterator.next × (l.adds ≡ l.initial.adds)
