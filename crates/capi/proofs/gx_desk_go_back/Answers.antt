use Rattle.std.proofs.Common.{◌≡◌, ◌∙◌, ap, ℕ, List}
use Rattle.drafts.proofs.PromiseKept.{drafts, keeps, refused-exactly, returns}
use Rattle.drafts.specs.Buffer.{after_at, answer_at, held_at}
use Rattle.drafts.specs.Draft.{Held}
use Rattle.drafts.specs.declared.Call.TheVariants as call
use Rattle.packing.specs.Packing.{pack_reading}
use Rattle.capi.proofs.gx_desk_go_back.Goals as goal

pub returns-clause-refuses : goal.returns-clause-refuses
returns-clause-refuses c = refused-exactly _ _

pub returns-clause-keeps : goal.returns-clause-keeps
returns-clause-keeps c = keeps _ _

pub returns-clause-means : goal.returns-clause-means
returns-clause-means c = drafts _ _

pub returns-clause-returns : goal.returns-clause-returns
returns-clause-returns c = λ b n later named leaves e.
    let R = returns b c.args.stand n later named leaves in (
      c.pack_reading.ensures ∙ ap pack_reading (c.act.ensures.0 ∙ ap (λ (x : List ℕ). answer_at x (call.GoBack c.args.stand)) e ∙ R.accepted),
      ap (λ (x : List ℕ). (held_at x).draft) (c.act.ensures.1 ∙ ap (λ (x : List ℕ). after_at x (call.GoBack c.args.stand)) e) ∙ R.yields,
    )
