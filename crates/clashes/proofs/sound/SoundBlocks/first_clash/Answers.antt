-- `first_clash` meets its contract: all entries are looked at.
use Rattle.std.proofs.Common.{ℕ, take, subst, arith}
use Rattle.blocks.specs.Entries.{entries_of}
use Rattle.clashes.specs.Promise.{apart_below}
use Rattle.pairs.specs.code.Search.{Finds}
use Rattle.clashes.proofs.sound.SoundBlocks.first_clash.Goals as goal

pub clash_of_items-requires : goal.clash_of_items-requires
clash_of_items-requires c = let s = c.args.self in (s.few, omega (arith, s.counted), s.whole)

pub returns : goal.returns
returns c =
    let s = c.args.self in
    subst (λ (n : ℕ). Finds (apart_below 257 (take 259 c.args.pairs.now) (entries_of s.bytes.now)) n c.clash_of_items.result) s.counted c.clash_of_items.ensures
