-- `nth_entry` meets its contract, one law for each way through the code.
use Rattle.std.proofs.Common.{◌≡◌, ap, ◌∙◌}
use Rattle.blocks.proofs.Format.EntryBytes.{entry_alone}
use Rattle.blocks.proofs.Refusing.EntryLaws.{of-above, of-found, of_none, of-past}
use Rattle.blocks.specs.Entries.{entry_from, zero_entry}
use Rattle.blocks.proofs.entries.nth_entry.Goals.{then-n-eq0-via-then-n-eq0, then-n-eq0-via-else-n-eq0+then-total-n, then-n-eq0-via-else-n-eq0+else-total-n+then-s-n}
use Rattle.blocks.proofs.entries.nth_entry.Goals as goal

pub returns-then-n-eq0 : goal.returns-then-n-eq0
returns-then-n-eq0 c =
    let d = c.default.ensures in
    let z : c.default.result ≡ zero_entry = rw (d.0, d.1.0, d.1.1.0, d.1.1.1.0, d.1.1.1.1) in
    elim c.then-n-eq0.branch [
      | then-n-eq0-via-then-n-eq0 w ↦ of_none _ _ _ w.if-n-eq0.true z
      | then-n-eq0-via-else-n-eq0+then-total-n w ↦ of-above _ _ _ w.if-total-n.true z
      | then-n-eq0-via-else-n-eq0+else-total-n+then-s-n w ↦
          of-past _ _ _ w.if-n-eq0.false w.if-total-n.false w.if-s-n.true z
    ]

pub returns-in-Some : goal.returns-in-Some
returns-in-Some c =
    of-found _ _ _ c.if-n-eq0.false c.if-total-n.false c.entry_pos-at.ensures.0
    (c.from.ensures ∙ ap (λ bytes. entry_from bytes 0) c.in-Some.ensures ∙ entry_alone _ _)

pub returns-in-None : goal.returns-in-None
returns-in-None c =
    of-found _ _ _ c.if-n-eq0.false c.if-total-n.false c.entry_pos-at.ensures.0 c.entry_near_end.ensures
