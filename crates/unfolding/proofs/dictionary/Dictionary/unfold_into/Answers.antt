-- `unfold_into` meets its contract: what is unfolded is written where there is room.
use Prim.Native.Nat.{◌*◌, ℕ}
use lib.ListN.{length}
use mathlib.Core.List.{List}
use mathlib.Core.Path.{◌∙◌, ◌≡◌, ap, refl, sym}
use native.Mathlib.Omega.{arith}
use Rattle.blocks.specs.Encoding.{blocks_for, encode}
use Rattle.blocks.specs.Frame.{plain}
use Rattle.blocks.specs.declared.Entry.{Entry}
use Rattle.names.specs.NamedReading.{dictionary_of, plain_of}
use Rattle.std.proofs.lemmas.Result.{err_from_is_err_and}
use Rattle.unfolding.proofs.CallLaws.{dictionary-goes, unfold-goes, unfold-stops, unfolds-many, writes-all, writes_short}
use Rattle.unfolding.specs.Answer.{over}
use Rattle.unfolding.proofs.dictionary.Dictionary.unfold_into.Goals.{In_ok-n}
use Rattle.unfolding.proofs.dictionary.Dictionary.unfold_into.Goals as goal

-- the table has as many entries as is answered
many : (c : In_ok-n) → 512 * blocks_for plain (length c.unfold_read.new.rows) ≡ 512 * blocks_for plain c.in_ok-n.n
many c =
    let u = c.unfold_read.ensures in
    let n = unfolds-many (dictionary_of c.args.self.bytes.now) c.args.input c.args.d.now u.0 c.in_ok-n.was in
    ap (λ (k : ℕ). 512 * blocks_for plain k) (ap length (u.1 _ c.in_ok-n.was).0 ∙ sym n)

pub returns-in_err-n : goal.returns-in_err-n
returns-in_err-n c =
    let p = err_from_is_err_and c.from_residual.result c.from_residual.ensures.1 in
    let g = dictionary-goes c.args.self.bytes.now c.args.input c.args.d.now refl c.args.self.accepted in
    rw (p.1, p.2) (unfold-stops c.args.self.bytes.now c.args.input c.args.d.now c.args.out.now (g ∙ sym c.unfold_read.ensures.0 ∙ c.in_err-n.was))

pub write_rows-requires : goal.write_rows-requires
write_rows-requires c = (c.unfold_read.ensures.1 _ c.in_ok-n.was).1

pub returns-then-not-write_rows : goal.returns-then-not-write_rows
returns-then-not-write_rows c =
    let s = c.write_rows.ensures.short c.if-not-write_rows.true in
    let m = many (goal.at.returns-then-not-write_rows c).In_ok-n in
    let g = dictionary-goes c.args.self.bytes.now c.args.input c.args.d.now refl c.args.self.accepted in
    unfold-goes c.args.self.bytes.now c.args.input c.args.d.now c.args.out.now g
    (writes_short (dictionary_of c.args.self.bytes.now) _ _ c.args.out.now c.unfold_read.ensures.0 c.in_ok-n.was (omega (arith, s.0, m))) s.1

pub returns : goal.returns
unfolding plain_of
returns c =
    let u = c.unfold_read.ensures in
    let s = c.write_rows.ensures.long c.if-not-write_rows.false in
    let m = many (goal.at.returns c).In_ok-n in
    let g = dictionary-goes c.args.self.bytes.now c.args.input c.args.d.now refl c.args.self.accepted in
    unfold-goes c.args.self.bytes.now c.args.input c.args.d.now c.args.out.now g
    (writes-all (dictionary_of c.args.self.bytes.now) _ _ c.args.out.now u.0 c.in_ok-n.was (omega (arith, s.0, m)))
    (s.1 ∙ ap (λ (es : List Entry). over (encode es) c.args.out.now) (u.1 _ c.in_ok-n.was).0)
