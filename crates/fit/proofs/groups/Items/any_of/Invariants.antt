-- `any_of` meets its contract: none of the entries passed is of the owner, the kind and the name.
use lib.ListN.{length}
use Rattle.blocks.specs.Entries.{entries_of}
use Rattle.blocks.specs.declared.Schema.TheVariants.{Specimen}
use Rattle.fit.specs.code.Index.{bucket_of, hash_of, not_of}
use Rattle.fit.proofs.index.BucketWalk.{Passing}
use Rattle.meaning.specs.Owned.{all_where}
use Rattle.fit.proofs.groups.Items.any_of.Given as goal

abbrev pub invariant-loop-k : goal.invariant-loop-k
invariant-loop-k l =
    let es = entries_of l.self.bytes.now in
    let b = hash_of l.self.most l.g l.code l.name in
    Passing Specimen l.self.most l.self.bytes.now (not_of es l.g l.kind l.name) b (all_where (bucket_of Specimen l.self.most es) (not_of es l.g l.kind l.name) b (length es)) l.self.index.now l.k-iterator.table.now l.k-iterator.most l.k-iterator.next
