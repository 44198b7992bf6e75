use Rattle.std.proofs.Common.{◌≡◌, ◌<◌, ◌∙◌, ◌≢◌, ap, sym, Bool, ◌&&◌, not, ℕ, refl, arith, get_or, false, length, true}
use Rattle.base.proofs.Tests.{and_one}
use Rattle.std.proofs.lemmas.List.{get_or-replicate}
use Rattle.meaning.specs.Owned.{all_where}
use Rattle.blocks.proofs.Refusing.Legal.{owner-earlier}
use Rattle.blocks.specs.Entries.{entries_of}
use Rattle.blocks.specs.Owners.{owner_of}
use Rattle.places.specs.Owned.{owned_after}
use Rattle.items.proofs.MeetLaws.{asked, asked-atom, asked-every, each-out, marks-more, next-is, next-owned, number-or, next-within, owned-run, passed-more, passed-none, place-fits}
use Rattle.items.specs.code.Record.{record_in}
use Rattle.logic.specs.Record.{fits}
use Rattle.meaning.specs.Description.{place_of}
use Rattle.items.proofs.judge.+keep_fitting.Goals.{then-e-eq-EVERY, else-e-eq-EVERY}
use Rattle.items.proofs.judge.+keep_fitting.Goals as goal

pub loop-at-init : goal.loop-at-init
loop-at-init t c =
    let P = c.args.places in
    let es = entries_of P.bytes.now in
    let b = number-or _ c.begin.ensures c.unwrap_or-at.ensures in
    let p = λ (x : ℕ). asked (record_in c.args.facts.facts.now) es x in
    record {
      within = rw b (next-within (p 0) es c.args.o 0 (omega arith));
      owned = λ z. rw b ((next-owned (p 0) es c.args.o 0 (omega arith) (λ q. z (b ∙ q))).0);
      done = λ x h. rw (b, owned-run (p x) es c.args.o 0 (omega arith)) (unfold all_where in sym (and_one (get_or c.args.marks.now x false)));
    }

pub keep_fitting-requires : goal.keep_fitting-requires
keep_fitting-requires t c =
    let P = c.args.places in
    let i = c.loop-at.invariant in
    let own = i.owned c.loop-at-test.true in
    let e = owner-earlier P.legal c.loop-at.at (omega (arith, c.loop-at-test.true)) i.within in
    (omega (arith, c.decreases, P.counted, i.within, e, own), omega (arith, P.counted, i.within))

pub loop-at-smaller : goal.loop-at-smaller
loop-at-smaller t c =
    let P = c.args.places in
    let es = entries_of P.bytes.now in
    let i = c.loop-at.invariant in
    let o = owner_of es c.loop-at.at in
    let p = asked (record_in c.args.facts.facts.now) es 0 in
    let n = number-or _ c.after.ensures c.unwrap_or-at-in-loop-at.ensures ∙ next-is es c.loop-at.at c.loop-at-test.true in
    passed-more es c.loop-at.at c.unwrap_or-at-in-loop-at.result c.loop-at-test.true i.within (rw n (next-within p es o c.loop-at.at i.within))
    (λ z. rw n ((next-owned p es o c.loop-at.at i.within (λ q. z (n ∙ q))).1))

pub loop-at-preserved : goal.loop-at-preserved
loop-at-preserved t c =
    let P = c.args.places in
    let F = c.args.facts.facts.now in
    let es = entries_of P.bytes.now in
    let i = c.loop-at.invariant in
    let own = i.owned c.loop-at-test.true in
    let n = number-or _ c.after.ensures c.unwrap_or-at-in-loop-at.ensures ∙ next-is es c.loop-at.at c.loop-at-test.true in
    let p = λ (x : ℕ). asked (record_in c.args.facts.facts.now) es x in
    record {
      within = rw n (next-within (p 0) es (owner_of es c.loop-at.at) c.loop-at.at i.within);
      owned = λ z. rw n ((next-owned (p 0) es (owner_of es c.loop-at.at) c.loop-at.at i.within (λ q. z (n ∙ q))).0 ∙ own);
      done = λ x h. marks-more (p x) es c.args.o c.loop-at.at c.unwrap_or-at-in-loop-at.result _ c.loop-at-test.true i.within own n (i.done x h)
          (elim c.if-e-eq-EVERY.branch [
            | then-e-eq-EVERY w ↦
                rw w.marks-is
                (w.keep_every.ensures x h
                ∙ ap (λ (b : Bool). get_or c.loop-at.marks x false && b)
                (each-out F _ _ w.saying.ensures.those c.entry-e.result.name x w.keep_fitting.new.marks (λ y. fits (record_in F) (place_of es c.loop-at.at) y) w.linking.ensures
                (λ y k. w.keep_fitting.ensures y k ∙ ap (λ (b : Bool). b && fits (record_in F) (place_of es c.loop-at.at) y) (get_or-replicate 256 y true false k))
                ∙ sym (asked-every (record_in F) es x c.loop-at.at c.entry-e.ensures w.if-e-eq-EVERY.true)))
            | else-e-eq-EVERY w ↦
                rw w.marks-is
                (w.keep_meeting.ensures x h
                ∙ ap (λ (b : Bool). get_or c.loop-at.marks x false && b)
                (sym (asked-atom (record_in F) es x c.loop-at.at c.entry-e.ensures w.if-e-eq-EVERY.false)))
          ]);
    }

pub returns : goal.returns
returns t c = λ x h.
    let P = c.args.places in
    let es = entries_of P.bytes.now in
    let d = c.loop-at.invariant.done x h in
    let n : c.loop-at.at ≡ 0 = omega (arith, c.loop-at-test.false) in
    rw (place-fits (record_in c.args.facts.facts.now) es P.legal c.args.o x) (rw (passed-none es c.loop-at.at n) at d)
