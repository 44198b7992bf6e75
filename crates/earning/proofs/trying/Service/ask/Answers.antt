-- `ask` meets its contract: the list is indexed whole, and the service is read.
use mathlib.Core.Path.{◌∙◌, ◌≡◌, ap, refl, sym}
use Rattle.blocks.proofs.RoundTrip.Accepting.{none-of-accepted}
use Rattle.blocks.specs.Reading.{reading_of}
use Rattle.blocks.specs.declared.Schema.TheVariants.{Description}
use Rattle.earning.proofs.TrialLaws.{accepted}
use Rattle.pairs.proofs.IndexLaws.{list-whole}
use Rattle.pairs.proofs.PairsAccepted.{list-few}
use Rattle.pairs.proofs.Under.{ruled-under}
use Rattle.pairs.specs.Pairs.{pairs_reading}
use Rattle.std.specs.Prelude.{Ok}
use Rattle.earning.proofs.trying.Service.ask.Goals.{After-new}
use Rattle.earning.proofs.trying.Service.ask.Goals as goal

whole : (c : After-new) → c.new.result.pairs.now ≡ c.args.self.pairs.now
whole c = accepted (pairs_reading c.args.self.pairs.now) c.args.self.listed (λ n e. c.new.ensures.listed ∙ list-whole _ (list-few _ e))

pub invariant_of-result : goal.invariant_of-result
invariant_of-result c =
    let s = c.args.self in
    record {
      ruled = rw (whole (goal.at.invariant_of-result c).After-new) (accepted (pairs_reading s.pairs.now) s.listed (λ n e. ruled-under s.pairs.now e));
      read = accepted (reading_of Description 2 s.d.now) s.read (λ m r. r ∙ ap Ok ((none-of-accepted Description 2 s.d.now r).1 ∙ sym s.counted));
    }

pub returns : goal.returns
returns c = (whole (goal.at.returns c).After-new, refl)
