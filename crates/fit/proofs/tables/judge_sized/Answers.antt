-- `judge_sized` meets its contract: the top place, with 33 levels to go, which no accepted description exceeds.
use Prim.Native.Nat.{ℕ}
use lib.ListN.{replicate}
use mathlib.Core.Path.{◌∙◌, ap, refl}
use native.Mathlib.Omega.{arith}
use Rattle.blocks.specs.Entries.{entries_of}
use Rattle.fit.proofs.AnswerLaws.{accepted-facts, accepted-single, top-judged}
use Rattle.fit.specs.Totals.{groups_up_to}
use Rattle.fit.proofs.tables.judge_sized.Goals as goal

pub fill-requires : goal.fill-requires
fill-requires g c =
    let f = accepted-facts _ _ _ c.requires.0 in
    (omega (arith, c.requires.4, c.requires.6), (f.0, c.requires.2, c.new-filling.ensures, refl, f.2, refl, f.3))

pub index_specimen-requires : goal.index_specimen-requires
index_specimen-requires g c =
    let f = accepted-facts _ _ _ c.requires.0 in
    (f.0, c.requires.2, c.requires.4, f.2, f.3, c.fill.ensures.2, ap (λ (x : ℕ). replicate x 0) c.requires.6)

pub index_description-requires : goal.index_description-requires
index_description-requires g c =
    let f = accepted-facts _ _ _ c.requires.1 in
    (f.0, c.requires.3, c.requires.4, f.2, f.3, ap (λ (x : ℕ). replicate x 0) c.requires.6, refl)

pub new-known-requires : goal.new-known-requires
new-known-requires g c =
    (∣ rw (c.totals.ensures.0, c.totals.ensures.3) (rw (accepted-facts _ _ _ c.requires.0).0 at c.fill.ensures.0) ∣₁, accepted-single _ _ c.requires.0)

pub returns : goal.returns
returns g c =
    let f = accepted-facts _ _ _ c.requires.0 in (
      top-judged _ _ c.requires.1 (rw (c.new-known.ensures.0, c.new-known.ensures.1) at c.fits_place-fits.ensures.0),
      c.fill.ensures.1 ∙ ap (groups_up_to (entries_of c.args.s.now)) f.0,
      omega (arith, c.fits_place-fits.ensures.1),
    )
