use Prim.Native.Nat.{◌+◌, ◌-◌, ℕ}
use lib.ListN.{get_or, length, length-append}
use mathlib.Core.List.{◌++◌, append-nil}
use mathlib.Core.Path.{◌∙◌, ◌≡◌, ap, refl, sym}
use native.Mathlib.Omega.{arith}
use Rattle.base.proofs.Lists.{length-listed, listed}
use Rattle.blocks.specs.Entries.{zero_entry}
use Rattle.blocks.specs.declared.Entry.{Entry}
use Rattle.unfolding.proofs.ReplaceLaws.{again-entry, again-more}
use Rattle.unfolding.specs.code.Replacing.{again}
use Rattle.unfolding.proofs.replace.put_aside.Goals as goal

pub loop-j-init : goal.loop-j-init
unfolding listed
loop-j-init c = sym (append-nil c.args.aside.now)

pub push-requires : goal.push-requires
push-requires c =
    let a = c.args in
    let f : ℕ → Entry = λ i. again a.m (length a.aside.now) (length a.aside.now) (get_or a.out.now i zero_entry) in
    omega (arith, ap length c.loop-j.invariant, length-append a.aside.now (listed f a.m c.loop-j.j), length-listed f a.m c.loop-j.j, c.requires.1, c.loop-j-test.true, c.len.ensures.0)

pub loop-j-preserved : goal.loop-j-preserved
loop-j-preserved c =
    let a = c.args in
    let f : ℕ → Entry = λ i. again a.m (length a.aside.now) (length a.aside.now) (get_or a.out.now i zero_entry) in
    let r = again-entry a.m c.len-first.result c.len-first.result c.at-e.result c.owner_again-owner.ensures refl in
    let there = ap (again a.m c.len-first.result c.len-first.result) c.at-e.ensures in
    let e = r ∙ there ∙ ap (λ (k : ℕ). again a.m k k (get_or a.out.now (a.m + c.loop-j.j) zero_entry)) c.len-first.ensures.0 in
    again-more f a.m c.loop-j.j a.aside.now c.loop-j.invariant e c.push.ensures

pub returns : goal.returns
returns c =
    let a = c.args in
    let f : ℕ → Entry = λ i. again a.m (length a.aside.now) (length a.aside.now) (get_or a.out.now i zero_entry) in
    let q : c.loop-j.j ≡ length a.out.now - a.m = omega (arith, c.loop-j-test.false, c.loop-j.auto.j-end, c.len.ensures.0) in
    (c.truncate.ensures, c.loop-j.invariant ∙ ap (λ (k : ℕ). a.aside.now ++ listed f a.m k) q)
