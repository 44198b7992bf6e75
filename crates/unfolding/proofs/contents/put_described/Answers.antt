-- `put_described` meets its contract: the bytes of the name's description are put in.
use lib.ListN.{length}
use mathlib.Core.List.{List, ◌++◌, map}
use mathlib.Core.Path.{◌∙◌, ap}
use native.Mathlib.Omega.{arith}
use Rattle.blocks.specs.declared.Entry.{Entry}
use Rattle.names.specs.Unfold.{relocate}
use Rattle.unfolding.proofs.PassLaws.{cut-blocks, cut-described, cut-loads, inside-same, raw-ready}
use Rattle.unfolding.proofs.contents.put_described.Goals as goal

pub overflow_sub-last : goal.overflow_sub-last
overflow_sub-last c =
    let D = c.args.dictionary in
    omega (arith, (cut-blocks D.bytes.now D.ready c.args.n c.requires.0 c.requires.1 c.description-part.ensures).0)

pub put_part-requires : goal.put_part-requires
put_part-requires c =
    let D = c.args.dictionary in
    let p = c.description-part.ensures in
    let l = cut-loads D.bytes.now D.ready c.args.n c.requires.0 c.requires.1 p (c.from.ensures ∙ c.word.ensures) in
    let g = cut-described D.bytes.now D.ready c.args.n c.requires.0 c.requires.1 p in
    let r = raw-ready D.ready.known.sized c.args.n c.requires.1 g in
    let same = ap length (inside-same D.ready.known.sized c.args.n c.requires.1 g) in
    (l.0, l.1.0, l.1.1, r.0, r.1.0, r.1.1, omega (arith, same, c.requires.2))

pub returns : goal.returns
returns c =
    let D = c.args.dictionary in
    let same = inside-same D.ready.known.sized c.args.n c.requires.1 (cut-described D.bytes.now D.ready c.args.n c.requires.0 c.requires.1 c.description-part.ensures) in
    c.put_part.ensures ∙ ap (λ (x : List Entry). c.args.out.now ++ map (relocate (length c.args.out.now) c.args.o) x) same
