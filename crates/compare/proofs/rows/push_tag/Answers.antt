-- `push_tag` meets its contract.
use Prim.Native.Nat.{◌+◌, max, pred, ℕ}
use mathlib.Core.Path.{◌∙◌, ◌≡◌, ap, ap₂, refl}
use native.Mathlib.Omega.{arith}
use Rattle.compare.proofs.rows.RowLaws.{group-is}
use Rattle.compare.specs.code.Asked.{code_asked, least_asked}
use Rattle.compare.specs.code.Tags.{tag_name, tag_slot}
use Rattle.logic.specs.Filling.{noted}
use Rattle.slots.specs.code.TablePlaces.{below_in, least_in}
use Rattle.compare.proofs.rows.push_tag.Goals.{After-below_in, After-max-items}
use Rattle.compare.proofs.rows.push_tag.Goals as goal

-- what the slot and the target ask for
counted : (c : After-max-items) → c.max-items.result ≡ max (least_in c.args.slots.now.table.now (tag_slot c.args.x)) (least_asked c.args.asked (tag_name c.args.x))
counted c =
    c.max-items.ensures
    ∙ ap₂ (λ (x : ℕ) (y : ℕ). max x y)
    (c.least_in.ensures.0 ∙ ap (λ (s : ℕ). least_in c.args.slots.now.table.now s) c.tag_slot-s.ensures.0)
    (c.least_asked.ensures ∙ ap (λ (y : ℕ). least_asked c.args.asked y) c.tag_name.ensures)

-- the code of the place below
coded : (c : After-below_in) → c.code_asked.result + c.below_in.result ≡ code_asked c.args.asked (tag_name c.args.x) + below_in c.args.slots.now.table.now (tag_slot c.args.x)
coded c =
    ap₂ (λ (x : ℕ) (y : ℕ). x + y)
    (c.code_asked.ensures ∙ ap (λ (y : ℕ). code_asked c.args.asked y) c.tag_name.ensures)
    (c.below_in.ensures.0 ∙ ap (λ (s : ℕ). below_in c.args.slots.now.table.now s) c.tag_slot-s.ensures.0)

pub returns : goal.returns
unfolding noted
returns c =
    let e = rw c.group_entry.ensures at c.push_entry.ensures in
    let m : c.saturating_sub.result ≡ pred (max (least_in c.args.slots.now.table.now (tag_slot c.args.x)) (least_asked c.args.asked (tag_name c.args.x))) =
    omega (arith, c.saturating_sub.ensures, counted (goal.at.returns c).After-max-items) in
    group-is c.args.slots.now.table.now c.args.asked c.args.x c.args.owner c.tag_name.ensures m (coded (goal.at.returns c).After-below_in)
    (record { pushed = e; notes = refl })
