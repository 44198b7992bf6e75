use Prim.Native.Nat.{◌+◌, ℕ}
use lib.ListN.{get_or, length, length-append}
use mathlib.Core.List.{append-nil}
use mathlib.Core.Path.{◌∙◌, ◌≡◌, ap, refl, sym}
use native.Mathlib.Omega.{arith}
use Rattle.base.proofs.Lists.{length-listed, listed}
use Rattle.blocks.specs.Entries.{zero_entry}
use Rattle.blocks.specs.declared.Entry.{Entry}
use Rattle.unfolding.proofs.ReplaceLaws.{again-entry, again-more, grown-entry}
use Rattle.unfolding.specs.code.Replacing.{again}
use Rattle.unfolding.proofs.replace.put_again.Goals.{After-at-e}
use Rattle.unfolding.proofs.replace.put_again.Goals as goal

-- the entry that is read is one of those before
here : (c : After-at-e) → c.at-e.result ≡ get_or c.args.out.now (c.args.p + c.loop-j.j) zero_entry
here c = grown-entry c.args.out.now _ (c.args.p + c.loop-j.j) (omega (arith, c.requires.0)) c.loop-j.invariant c.at-e.ensures

pub loop-j-init : goal.loop-j-init
unfolding listed
loop-j-init c = sym (append-nil c.args.out.now)

pub push-requires : goal.push-requires
push-requires c =
    let a = c.args in
    let f : ℕ → Entry = λ i. again a.p (length a.out.now) a.o (get_or a.out.now i zero_entry) in
    omega (arith, ap length c.loop-j.invariant, length-append a.out.now (listed f a.p c.loop-j.j), length-listed f a.p c.loop-j.j, c.requires.1)

pub loop-j-preserved : goal.loop-j-preserved
loop-j-preserved c =
    let a = c.args in
    let f : ℕ → Entry = λ i. again a.p (length a.out.now) a.o (get_or a.out.now i zero_entry) in
    let r = again-entry a.p c.len-m.result a.o c.at-e.result c.owner_again-owner.ensures refl in
    let there = ap (again a.p c.len-m.result a.o) (here (goal.at.loop-j-preserved c).After-at-e) in
    let e = r ∙ there ∙ ap (λ (m : ℕ). again a.p m a.o (get_or a.out.now (a.p + c.loop-j.j) zero_entry)) c.len-m.ensures.0 in
    again-more f a.p c.loop-j.j a.out.now c.loop-j.invariant e c.push.ensures
