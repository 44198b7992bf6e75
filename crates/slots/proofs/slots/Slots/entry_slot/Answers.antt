-- `entry_slot` meets its contract.
use native.Mathlib.Omega.{arith}
use Rattle.base.proofs.ChainLaws.{last_on}
use Rattle.slots.proofs.states.SlotSearch.{search-slot}
use Rattle.slots.proofs.slots.Slots.entry_slot.Goals as goal

pub returns : goal.returns
returns g c = (
  (last_on _ _ _ c.search.ensures.0).bound,
  c.search.ensures.1,
  λ ss i. search-slot i _ _ _ (omega arith) c.entry_key.ensures.0 c.search.ensures.0,
)
