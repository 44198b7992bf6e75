-- `none_with` meets its contract: where the chain of a bucket is empty, nothing stands beside a property of the bucket.
use Rattle.std.proofs.Common.{◌∙◌, ℕ, get_or, ap, sym}
use Rattle.base.proofs.Tests.{eqb-eq}
use Rattle.pairs.proofs.IndexLaws.{partners-end, partners-start}
use Rattle.pairs.proofs.exclusions.Exclusions.none_with.Goals as goal

pub returns-clause-none : goal.returns-clause-none
returns-clause-none c = λ t.
    let last = ap (λ (b : ℕ). get_or c.args.self.index.now b 0) c.bucket.ensures.0 in
    sym (partners-start c.args.self.indexed _ last) ∙ partners-end _ _ (eqb-eq t)
