-- `put_name`, `put_first` and `put_opened` meet their contracts. A name goes to an earlier description, so that what it names is less each time.
use Prim.Native.Nat.{◌*◌, ◌+◌}
use lib.ListN.{drop, length, take}
use Rattle.names.specs.NamedReading.{dictionary_of}
use Rattle.names.specs.Unfold.{contents}
use Rattle.unfolding.proofs.OpenLaws.{Going}
use Rattle.unfolding.specs.code.Replacing.{pending}
use Rattle.unfolding.specs.code.Rows.{greatest_name}
use Rattle.unfolding.proofs.contents.+put_name_put_first_put_opened.Given as goal

abbrev pub decreases-put_name : goal.decreases-put_name
decreases-put_name l = 3 * l.n + 2

abbrev pub decreases-put_first : goal.decreases-put_first
decreases-put_first l = 3 * l.n + 1

abbrev pub decreases-put_opened : goal.decreases-put_opened
decreases-put_opened l = 3 * greatest_name (drop l.first l.opening.now.opened) + 3

abbrev pub invariant-put_opened-loop-i : goal.invariant-put_opened-loop-i
invariant-put_opened-loop-i l =
    let K = dictionary_of l.dictionary.bytes.now in
    let start = l.initial.opening in
    Going K l.first start l.initial.out (pending (contents K) start.opened (take (length start.opened + 1) start.number) l.first l.initial.out) l.i l.opening l.out
