-- `mark_by_facts` meets its contract: by facts in ascending order, from the top place, for all items.
use Rattle.std.proofs.Common.{◌≡◌, ◌&&◌, ◌∙◌, true, false, Bool, ap, map, get_or, arith}
use Rattle.std.proofs.lemmas.List.{get_or-replicate}
use Rattle.blocks.specs.Entries.{entries_of}
use Rattle.items.proofs.RecordLaws.{ascends-sorted, delivered-fits, legal-allowed}
use Rattle.items.specs.code.Record.{fact_of, record_in}
use Rattle.logic.specs.Record.{fits}
use Rattle.meaning.specs.Description.{place_of}
use Rattle.items.proofs.marking.mark_by_facts.Goals as goal

pub invariant_of-keep_fitting : goal.invariant_of-keep_fitting
invariant_of-keep_fitting c =
    record { ascends = rw c.gather.ensures.sorted (ascends-sorted (map fact_of (entries_of c.args.delivered.bytes.now))); small = c.gather.ensures.small }

pub returns : goal.returns
returns c = λ x h.
    let r = c.args.delivered in
    let es = entries_of r.bytes.now in
    let t = place_of (entries_of c.args.places.bytes.now) 0 in
    c.keep_fitting.ensures x h
    ∙ ap (λ (b : Bool). b && fits (record_in c.gather.new.facts) t x) (get_or-replicate 256 x true false h)
    ∙ rw c.gather.ensures.sorted (delivered-fits r.items r.most es (legal-allowed r.items es r.legal) t x)
