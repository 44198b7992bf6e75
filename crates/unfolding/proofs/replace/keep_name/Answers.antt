-- `keep_name` meets its contract: a name that stands for nothing goes, any other stays.
use lib.ListN.{length}
use mathlib.Core.List.{List, ◌++◌, append-nil}
use mathlib.Core.Path.{◌∙◌, ap, sym}
use native.Mathlib.Omega.{arith}
use Rattle.blocks.specs.declared.Entry.{Entry}
use Rattle.names.proofs.InPasses.Replaced.{name-again}
use Rattle.unfolding.proofs.ReplaceLaws.{kept-itself, kept-none}
use Rattle.unfolding.specs.code.Known.{size_in}
use Rattle.unfolding.proofs.replace.keep_name.Goals as goal

pub returns-then-size-eq0 : goal.returns-then-size-eq0
returns-then-size-eq0 c =
    let b = kept-none (size_in c.args.tables.now.of) c.args.e (sym c.size.ensures ∙ c.if-size-eq0.true) in
    rw b (sym (append-nil c.args.out.now))

pub push-requires : goal.push-requires
push-requires c =
    let b = kept-itself (size_in c.args.tables.now.of) c.args.e (λ z. c.if-size-eq0.false (c.size.ensures ∙ z)) in
    omega (arith, ap length b, c.requires.3)

pub returns : goal.returns
returns c =
    let b = kept-itself (size_in c.args.tables.now.of) c.args.e (λ z. c.if-size-eq0.false (c.size.ensures ∙ z)) in
    let again = name-again (length c.args.out.now) c.args.o c.args.e c.requires.0 c.requires.1 in
    rw b (c.push.ensures ∙ ap (λ (x : List Entry). c.args.out.now ++ x) (sym again))
