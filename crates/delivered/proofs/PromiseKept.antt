-- A delivered record is refused exactly by the first line that applies, of the list or else of the record; and one that is accepted keeps the rule on
-- single links and the list.
-- Assumes nothing.
use Rattle.std.proofs.Common.{◌≡◌, ℕ, List, Ok, sym, ◌∙◌}
use mathlib.Core.Logic.{◌↔◌, inl, inr}
use Rattle.blocks.proofs.Refusing.FirstFault.{first_found, found_first}
use Rattle.blocks.proofs.Refusing.Readings.{reading-cases, refused-finding}
use Rattle.blocks.specs.Entries.{entries_of}
use Rattle.blocks.specs.Faults.{first}
use Rattle.blocks.specs.Frame.{plain, total_in}
use Rattle.blocks.specs.Refusals.{refused}
use Rattle.blocks.specs.declared.Cause.{Cause}
use Rattle.clashes.proofs.Refusals.{list-none, none_list}
use Rattle.delivered.proofs.KeepsLaws.{kept}
use Rattle.delivered.proofs.ReadingLaws.{list-refused, taken, under-list}
use Rattle.delivered.specs.Promise.{DeliveredRefusedBy}
use Rattle.delivered.specs.Reading.{delivered_faults, delivered_reading}
use Rattle.delivered.specs.Record.{delivered_record}
use Rattle.logic.specs.Background.{Keeps}
use Rattle.pairs.proofs.PairsAccepted.{pairs-right}
use Rattle.pairs.proofs.PairsRefused.{first-of-pairs, pairs-refused}
use Rattle.pairs.specs.Pairs.{pairs_reading, under}

module _ (P : List ℕ) (total : ℕ) (s : List ℕ) where
  module _ {k : Cause} {i p : ℕ} where
    refused-by : DeliveredRefusedBy P total s k i p → delivered_reading P total s ≡ refused k i p
    refused-by (inl r) = let i = r.0 in list-refused P total s (pairs-refused P r.1 ∙ rw i)
    refused-by (inr r) =
        let i = r.1.0 in
        let q = first_found (delivered_faults P total s) k p r.1.1 in
        under-list P total s (none_list P r.0) ∙ rw (q, i)

    first_of : delivered_reading P total s ≡ refused k i p → DeliveredRefusedBy P total s k i p
    first_of e =
        reading-cases (pairs_reading P)
        (λ k' i' p' f. let r = first-of-pairs P (f ∙ sym (list-refused P total s f) ∙ e) in inl (r.1.0, r.1.1))
        (λ m f.
        let r = refused-finding 1 (total_in plain s) (first (delivered_faults P total s)) (sym (under-list P total s f) ∙ e) in
        inr (list-none P f, (r.0, found_first (delivered_faults P total s) k p r.1)))

    -- [J5] the first line that applies refuses a record, and nothing else does
    pub delivered-refused-exactly : (delivered_reading P total s ≡ refused k i p) ↔ DeliveredRefusedBy P total s k i p
    delivered-refused-exactly = (first_of, refused-by)

  -- [J5] the record of entries that are accepted keeps the rule on single links, and the list
  pub delivered-keeps : {n : ℕ} → delivered_reading P total s ≡ Ok n → Keeps (under P) (delivered_record total (entries_of s))
  delivered-keeps e = let t = taken P total s e in kept P total (entries_of s) (pairs-right P t.list) t.one t.apart
