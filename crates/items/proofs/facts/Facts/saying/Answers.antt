-- `saying` meets its contract, by the two points that part the facts.
use Rattle.std.proofs.Common.{◌/◌, drop, leb, ltb, arith, rules}
use Rattle.std.proofs.lemmas.List.Sorted.{IsPartitionPoint-from_clause}
use Rattle.items.proofs.SpanLaws.{ascends-drop, parted-below, parted-upto, rest-whole, row-alike, row-those}
use Rattle.items.proofs.facts.Facts.saying.Goals as goal

pub returns-clause-those : goal.returns-clause-those
returns-clause-those c =
    let F = c.args.self.facts.now in
    let A = c.args.self.ascends in
    let from = c.partition_point-from.result in
    let w = rest-whole F from in
    let a = IsPartitionPoint-from_clause (λ f. ltb (f / 65536) c.args.what) F from c.partition_point-from.ensures.partitioned (parted-below F c.args.what A) (λ a r q k. search rules) in
    let cl = rw w at c.partition_point-count.ensures.partitioned in
    let b = IsPartitionPoint-from_clause (λ f. leb (f / 65536) c.args.what) (drop from F) c.partition_point-count.result cl (parted-upto (drop from F) c.args.what (ascends-drop F from A)) (λ a r q k. search rules) in
    let n = rw w at c.partition_point-count.ensures.bound in
    λ p. rw w (row-those F from c.partition_point-count.result c.args.what A (λ i l. a.0 i 0 (omega arith) l) (λ i l m. a.1 i 0 l m) (λ i l. b.0 i 0 (omega arith) l) (λ i l m. b.1 i 0 l m) c.partition_point-from.ensures.bound n p)

pub returns-clause-alike : goal.returns-clause-alike
returns-clause-alike c =
    let F = c.args.self.facts.now in
    let A = c.args.self.ascends in
    let from = c.partition_point-from.result in
    let w = rest-whole F from in
    let a = IsPartitionPoint-from_clause (λ f. ltb (f / 65536) c.args.what) F from c.partition_point-from.ensures.partitioned (parted-below F c.args.what A) (λ a r q k. search rules) in
    let cl = rw w at c.partition_point-count.ensures.partitioned in
    let b = IsPartitionPoint-from_clause (λ f. leb (f / 65536) c.args.what) (drop from F) c.partition_point-count.result cl (parted-upto (drop from F) c.args.what (ascends-drop F from A)) (λ a r q k. search rules) in
    let n = rw w at c.partition_point-count.ensures.bound in
    rw w (row-alike F from c.partition_point-count.result c.args.what A (λ i l. a.0 i 0 (omega arith) l) (λ i l m. a.1 i 0 l m) (λ i l. b.0 i 0 (omega arith) l) (λ i l m. b.1 i 0 l m) c.partition_point-from.ensures.bound n c.args.self.small)
