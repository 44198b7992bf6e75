-- `restricted` meets its contract: what stays is not excluded, and no link from 32,768 up; a property goes by what excludes it, a link by its name.
use Rattle.std.proofs.Common.{not}
use Prim.Native.Nat.{◌%◌, ◌/◌, ℕ}
use lib.Dec.{eqb, ltb}
use lib.ListN.{get_or}
use mathlib.Core.Bool.{◌&&◌, true}
use mathlib.Core.Path.{◌∙◌, ◌≡◌, ap, sym}
use Rattle.base.proofs.Tests.{and_left, and_right, confirmed, eqb-eq, refuted}
use Rattle.pairs.specs.Pairs.{under}
use Rattle.pairs.specs.code.Index.{bucket_of}
use Rattle.passes.specs.code.Restrict.{excluded_at}
use Rattle.slots.proofs.excluding.ExcludingLaws.{not-excluded}
use Rattle.slots.proofs.restrict.RestrictLaws.{word-stays}
use Rattle.slots.specs.code.Tables.{key_in, property_word, restricted_word}
use Rattle.slots.proofs.restrict.restricted.Goals as goal

pub returns-then-stays : goal.returns-then-stays
returns-then-stays c = λ ss M.
    let x = c.args.x in
    let list = c.args.marked.exclusions in
    let test : (eqb (get_or list.index.now (bucket_of (key_in x % 65536)) 0) 0 && ltb (key_in x % 131072) 98304) ≡ true
    = rw (← c.key_in-k.ensures.0) (sym c.stays.ensures ∙ c.if-stays.true) in
    sym (word-stays x (not-excluded _ _ _ list.indexed (eqb-eq (and_left _ _ test)) ss) (and_right (eqb (get_or list.index.now (bucket_of (key_in x % 65536)) 0) 0) _ test))

pub returns-then-not-of_property : goal.returns-then-not-of_property
unfolding restricted_word
returns-then-not-of_property c = λ ss M. rw (restricted_word, refuted c.of_property.ensures (ap not c.if-not-of_property.true)) c.restricted_link.ensures

pub returns : goal.returns
unfolding restricted_word
returns c = λ ss M.
    let a = c.args in
    let out = c.excluded-out.ensures ss M
    ∙ ap (λ (key : ℕ). excluded_at (under a.marked.exclusions.pairs.now) ss (key / 131072) (key % 65536)) c.key_in-k.ensures.0 in
    rw (restricted_word, confirmed c.of_property.ensures (ap not c.if-not-of_property.false))
    (c.restricted_property.ensures ∙ ap (λ (o : _). property_word o a.x) out)
