-- `narrowest_unfolded` meets its contract: what stands in the two buffers are the plain descriptions.
use Prim.Native.Nat.{ℕ}
use mathlib.Core.List.{List}
use mathlib.Core.Path.{◌∙◌, ap₂, sym}
use Rattle.named.proofs.NarrowestLaws.{narrowest-goes, narrowest-refused}
use Rattle.named.proofs.UnfoldedLaws.{both-buffers, both-unfolded, first_part_lem, second-part}
use Rattle.narrowest.specs.Answer.{narrowed_of, narrowest_of}
use Rattle.std.proofs.lemmas.List.{length-take-le}
use Rattle.std.proofs.lemmas.Result.{err_from_is_err_and}
use Rattle.named.proofs.narrowing.narrowest_unfolded.Goals as goal

pub returns-in_err-n : goal.returns-in_err-n
returns-in_err-n c =
    let D = c.args.dictionary.now in
    let a₀ = c.args.a.now in
    let b₀ = c.args.b.now in
    let b₁ = c.args.first.now in
    let b₂ = c.args.second.now in
    let u = c.unfold_both.ensures in
    let e = sym (both-buffers D a₀ b₀ b₁ b₂ c.requires.2 c.requires.3) ∙ sym u.0 ∙ c.in_err-n.was in
    let p = err_from_is_err_and c.from_residual.result c.from_residual.ensures.1 in
    rw (p.1, p.2) (narrowest-refused c.args.pairs.now D c.requires.0 c.requires.1 a₀ b₀ c.args.out.now e)

pub slice_bounds-narrowest-end : goal.slice_bounds-narrowest-end
slice_bounds-narrowest-end c =
    let D = c.args.dictionary.now in
    let a₀ = c.args.a.now in
    let b₀ = c.args.b.now in
    let b₁ = c.args.first.now in
    let b₂ = c.args.second.now in
    let u = c.unfold_both.ensures in
    (first_part_lem D a₀ b₀ b₁ b₂ c.requires.2 c.requires.3 u.0 u.1 u.2 c.in_ok-n.was c.bytes_for-to.ensures.0).1

pub slice_bounds-narrowest-end-3 : goal.slice_bounds-narrowest-end-3
slice_bounds-narrowest-end-3 c =
    let D = c.args.dictionary.now in
    let a₀ = c.args.a.now in
    let b₀ = c.args.b.now in
    let b₁ = c.args.first.now in
    let b₂ = c.args.second.now in
    let u = c.unfold_both.ensures in
    (second-part D a₀ b₀ b₁ b₂ c.requires.2 c.requires.3 u.0 u.1 u.2 c.in_ok-n.was c.bytes_for-end.ensures.0).1

pub returns : goal.returns
returns c =
    let D = c.args.dictionary.now in
    let a₀ = c.args.a.now in
    let b₀ = c.args.b.now in
    let b₁ = c.args.first.now in
    let b₂ = c.args.second.now in
    let P = c.args.pairs.now in
    let o = c.args.out.now in
    let u = c.unfold_both.ensures in
    let t = c.in_ok-n.was in
    let e = both-unfolded D a₀ b₀ b₁ b₂ c.requires.2 c.requires.3 u.0 u.1 u.2 t in
    let f = (first_part_lem D a₀ b₀ b₁ b₂ c.requires.2 c.requires.3 u.0 u.1 u.2 t c.bytes_for-to.ensures.0).0 in
    let s = (second-part D a₀ b₀ b₁ b₂ c.requires.2 c.requires.3 u.0 u.1 u.2 t c.bytes_for-end.ensures.0).0 in
    let g = narrowest-goes P D c.requires.0 c.requires.1 a₀ b₀ o e.0 e.1 in
    let r = c.narrowest.ensures in
    (r.0 ∙ ap₂ (λ (x y : List ℕ). narrowest_of P x y o) f s ∙ g.0, r.1 ∙ ap₂ (λ (x y : List ℕ). narrowed_of P x y o) f s ∙ g.1)

pub slice_bounds-narrowest-end-2 : goal.slice_bounds-narrowest-end-2
slice_bounds-narrowest-end-2 c = sym (length-take-le _ _ (slice_bounds-narrowest-end c))

pub slice_bounds-narrowest-end-4 : goal.slice_bounds-narrowest-end-4
slice_bounds-narrowest-end-4 c = sym (length-take-le _ _ (slice_bounds-narrowest-end-3 c))
