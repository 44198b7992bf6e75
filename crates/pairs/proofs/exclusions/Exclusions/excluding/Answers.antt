-- `excluding` meets its contract: the walk begins at the last number of the property's bucket.
use Rattle.std.proofs.Common.{◌≡◌, ◌∙◌, ℕ, get_or, unwrap_or, ap}
use Rattle.pairs.proofs.IndexLaws.{partners-reached, partners-start}
use Rattle.pairs.specs.code.Index.{bucket_of}
use Rattle.pairs.proofs.exclusions.Exclusions.excluding.Goals.{After-link}
use Rattle.pairs.proofs.exclusions.Exclusions.excluding.Goals as goal

last : (c : After-link) → unwrap_or c.link.result 0 ≡ get_or c.args.self.index.now (bucket_of c.args.p.0) 0
last c = c.link.ensures.number ∙ ap (λ (b : ℕ). get_or c.args.self.index.now b 0) c.bucket.ensures.0

pub invariant_of-result : goal.invariant_of-result
invariant_of-result c = record { reached = partners-reached c.args.self.indexed _ (last c); number = c.link.ensures.some }

pub returns : goal.returns
returns c = partners-start c.args.self.indexed _ (last (goal.at.returns c).After-link)
