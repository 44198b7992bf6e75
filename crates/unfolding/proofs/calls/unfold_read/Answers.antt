-- `unfold_read` meets its contract.
use Prim.Native.Nat.{ℕ}
use lib.ListN.{length}
use mathlib.Core.Path.{◌∙◌, ◌≡◌, ap}
use native.Mathlib.Omega.{arith}
use Rattle.names.specs.NamedReading.{dictionary_of}
use Rattle.unfolding.proofs.CallLaws.{Took, read-refused, read-took, took-unfolds}
use Rattle.std.proofs.lemmas.Result.{err_from_is_err_and}
use Rattle.unfolding.proofs.calls.unfold_read.Goals.{In_ok-m}
use Rattle.unfolding.proofs.calls.unfold_read.Goals as goal

-- the description is taken
took : (c : In_ok-m) → Took (dictionary_of c.args.dictionary.bytes.now) c.args.input c.args.d.now c.in_ok-m.m.total
took c = read-took (dictionary_of c.args.dictionary.bytes.now) _ _ (c.read_named.ensures _ c.args.dictionary.ready.known) c.in_ok-m.was

pub unfold_rows-requires : goal.unfold_rows-requires
unfold_rows-requires c =
    let T = took (goal.at.unfold_rows-requires c).In_ok-m in
    rw c.from.ensures (T.count, T.whole, T.few, c.requires, T.legal, T.small)

pub returns-in_err-m : goal.returns-in_err-m
returns-in_err-m c =
    let p = err_from_is_err_and c.from_residual.result c.from_residual.ensures.1 in
    rw (p.1, p.2)
    (read-refused (dictionary_of c.args.dictionary.bytes.now) _ _ (c.read_named.ensures _ c.args.dictionary.ready.known) c.in_err-m.was, λ n e. let z : ◌≡◌ {A = ℕ} 0 1 = cc in absurd (omega arith))

pub returns : goal.returns
returns c =
    let T = took (goal.at.returns c).In_ok-m in
    (took-unfolds T (c.len.ensures.0 ∙ ap length c.unfold_rows.ensures), λ n e. (c.unfold_rows.ensures, rw c.unfold_rows.ensures T.small))
