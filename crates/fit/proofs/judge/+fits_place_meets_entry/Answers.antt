use Prim.Native.Nat.{◌-◌}
use mathlib.Core.Bool.{◌||◌, not, true}
use mathlib.Core.Path.{◌∙◌, ◌≡◌, ap, refl, sym}
use native.Mathlib.Omega.{arith}
use Rattle.base.proofs.Tests.{confirmed, false_of_not, refuted, true_of_not}
use Rattle.blocks.specs.Entries.{entries_of}
use Rattle.fit.proofs.index.BucketLaws.{hash-below}
use Rattle.fit.proofs.index.BucketWalk.{has-entry, pass-ends, pass-first, pass-no, pass-on, walk-at}
use Rattle.fit.proofs.judge.MeetLaws.{bare-asked, bare-fail, bare-none, group-decides, meets-atoms, meets-bare, meets-bottom}
use Rattle.fit.proofs.judge.MeetLaws.{meets-bucket, meets_atom, no-atom, other-passes}
use Rattle.fit.specs.code.Bare.{bare_fits}
use Rattle.fit.specs.code.Groups.{has_bare}
use Rattle.fit.proofs.groups.GroupLaws.{table-most, table-total}
use Rattle.fit.proofs.judge.+fits_place_meets_entry.Goals as goal

-- ---- the entries of a place

pub fits_place-loop-e-init : goal.fits_place-loop-e-init
fits_place-loop-e-init t c =
    let b = c.entries-e-items.ensures in
    rw c.into_iter-e-iterator.ensures.into_iter_gives (pass-first c.args.known.now.places.ready _ _ refl c.requires.1 b.0 b.1 b.2, refl)

pub fits_place-loop-e-preserved : goal.fits_place-loop-e-preserved
fits_place-loop-e-preserved t c =
    let i = c.loop-e.invariant in
    let m = c.meets_entry.ensures in (
      pass-on c.args.known.now.places.ready _ _ i.0 c.in-Some.ensures.steps
          (confirmed m.0 (ap not c.if-not-meets_entry.false)),
      m.1 ∙ i.1,
    )

pub fits_place-returns-then-not-meets_entry : goal.fits_place-returns-then-not-meets_entry
fits_place-returns-then-not-meets_entry t c =
    let i = c.loop-e.invariant in
    let m = c.meets_entry.ensures in (
      sym (pass-no c.args.known.now.places.ready _ _ i.0 c.in-Some.ensures.steps
          (refuted m.0 (ap not c.if-not-meets_entry.true))),
      m.1 ∙ i.1,
    )

pub fits_place-returns : goal.fits_place-returns
fits_place-returns t c =
    let i = c.loop-e.invariant in
    (sym (pass-ends c.args.known.now.places.ready _ _ i.0 c.in-None.ensures.steps.0), i.1)

-- ---- an entry, and the groups of an 'every'

pub meets_entry-returns-then-left-eq0 : goal.meets_entry-returns-then-left-eq0
meets_entry-returns-then-left-eq0 t c = (meets-bottom _ _ _ _ _ c.if-left-eq0.true, refl)

pub meets_entry-entry_at-entry-requires : goal.meets_entry-entry_at-entry-requires
meets_entry-entry_at-entry-requires t c =
    has-entry c.args.known.now.places.ready c.requires.3 (λ z. omega (arith, c.requires.2))

pub meets_entry-returns-in-1 : goal.meets_entry-returns-in-1
unfolding meets_atom
meets_entry-returns-in-1 t c = (
  meets-atoms _ _ _ _ _ c.if-left-eq0.false c.entry_at-entry.ensures (λ z. omega (arith, c.in-1.is))
      (c.has_property.ensures ∙ rw c.property.ensures (rw (meets_atom, c.in-1.is))),
  refl,
)

pub meets_entry-returns-in-2 : goal.meets_entry-returns-in-2
unfolding meets_atom
meets_entry-returns-in-2 t c = (
  meets-atoms _ _ _ _ _ c.if-left-eq0.false c.entry_at-entry.ensures (λ z. omega (arith, c.in-2.is))
      (ap not c.has_property-in-2.ensures ∙ rw c.property-in-2.ensures (rw (meets_atom, c.in-2.is))),
  refl,
)

pub meets_entry-returns-in-3 : goal.meets_entry-returns-in-3
unfolding meets_atom
meets_entry-returns-in-3 t c =
    let k = c.args.known.now in (
      meets-atoms _ _ _ _ _ c.if-left-eq0.false c.entry_at-entry.ensures (λ z. omega (arith, c.in-3.is))
          (rw (table-total k.items.bytes.now c.args.g c.link.result.0 k.counted c.total_of.ensures, c.link.ensures, c.from.ensures)
          (rw (meets_atom, c.in-3.is))),
      refl,
    )

pub meets_entry-returns-in-4 : goal.meets_entry-returns-in-4
unfolding meets_atom
meets_entry-returns-in-4 t c =
    let k = c.args.known.now in (
      meets-atoms _ _ _ _ _ c.if-left-eq0.false c.entry_at-entry.ensures (λ z. omega (arith, c.in-4.is))
          (table-most k.items.bytes.now c.args.g c.link-in-4.result.0 c.entry_at-entry.result.number k.counted k.single
          c.at_most.ensures ∙ rw c.link-in-4.ensures (rw (meets_atom, c.in-4.is))),
      refl,
    )

pub meets_entry-returns-in_default : goal.meets_entry-returns-in_default
meets_entry-returns-in_default t c = (
  meets-atoms _ _ _ _ _ c.if-left-eq0.false c.entry_at-entry.ensures (λ z. omega arith)
      (no-atom _ _ _ (λ z. omega arith) (λ z. omega arith) (λ z. omega arith) (λ z. omega arith)),
  refl,
)

pub meets_entry-returns-then-has_bare : goal.meets_entry-returns-then-has_bare
meets_entry-returns-then-has_bare t c = (
  meets-bare _ _ _ _ _ c.if-left-eq0.false c.entry_at-entry.ensures c.in-5.is c.link-link.ensures
      (bare-fail _ _ c.demands.ensures c.has_bare.ensures c.if-demands.true c.if-has_bare.true),
  refl,
)

pub meets_entry-loop-h-init : goal.meets_entry-loop-h-init
meets_entry-loop-h-init t c =
    let R = c.args.known.now.items.ready in
    let es = entries_of c.args.known.now.items.bytes.now in
    let ds = entries_of c.args.known.now.places.bytes.now in
    let b = c.groups_by-h-items.ensures in
    let asked : (bare_fits ds c.args.e || not (has_bare es c.args.g c.link-link.result.0)) ≡ true =
    elim c.else-demands.branch [
      | goal.meets_entry-else-demands-via-then-demands+else-has_bare w ↦ bare-none _ _ w.has_bare.ensures w.if-has_bare.false
      | goal.meets_entry-else-demands-via-else-demands w ↦ bare-asked _ _ c.demands.ensures w.if-demands.false
    ] in
    rw c.into_iter-h-iterator.ensures.into_iter_gives (
      pass-first R _ _ (meets-bucket _ _ _ _ _ c.if-left-eq0.false c.entry_at-entry.ensures c.in-5.is c.link-link.ensures _ asked)
          (hash-below _ _ _ _ (omega (arith, R.index.below))) b.0 b.1 b.2,
      refl,
    )

pub meets_entry-loop-h-preserved : goal.meets_entry-loop-h-preserved
meets_entry-loop-h-preserved t c =
    let K = c.args.known.now.items in
    let i = c.loop-h.invariant in
    let s = c.in-Some.ensures.steps in
    elim c.else-is_group.branch [
      | goal.meets_entry-else-is_group-via-then-is_group+else-not-fits_place w ↦ (
        pass-on K.ready _ _ i.0 s
            (group-decides _ (c.args.left - 1) _ c.args.e c.args.g _ c.in-Some.h c.entry_at.ensures c.is_group.ensures K.most
            ((walk-at i.0 s).bucket s.0.1) K.even w.if-is_group.true w.fits_place.ensures.0 ∙ true_of_not _ (ap not w.if-not-fits_place.false)),
        w.adds-is ∙ w.fits_place.ensures.1 ∙ i.1,
      )
      | goal.meets_entry-else-is_group-via-else-is_group w ↦ (
        pass-on K.ready _ _ i.0 s
            (other-passes _ (c.args.left - 1) _ c.args.e c.args.g _ c.in-Some.h c.entry_at.ensures c.is_group.ensures w.if-is_group.false),
        w.adds-is ∙ i.1,
      )
    ]

pub meets_entry-returns-then-not-fits_place : goal.meets_entry-returns-then-not-fits_place
meets_entry-returns-then-not-fits_place t c =
    let K = c.args.known.now.items in
    let i = c.loop-h.invariant in
    let s = c.in-Some.ensures.steps in
    let f = c.fits_place.ensures in (
      sym (pass-no K.ready _ _ i.0 s
          (group-decides _ (c.args.left - 1) _ c.args.e c.args.g _ c.in-Some.h c.entry_at.ensures c.is_group.ensures K.most
          ((walk-at i.0 s).bucket s.0.1) K.even c.if-is_group.true f.0 ∙ false_of_not _ (ap not c.if-not-fits_place.true))),
      f.1 ∙ i.1,
    )

pub meets_entry-returns-in-None : goal.meets_entry-returns-in-None
meets_entry-returns-in-None t c =
    let i = c.loop-h.invariant in
    (sym (pass-ends c.args.known.now.items.ready _ _ i.0 c.in-None.ensures.steps.0), i.1)
