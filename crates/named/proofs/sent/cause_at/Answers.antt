-- `cause_at` meets its contract: a form that is a name's, another form, another cause.
use mathlib.Core.List.{List}
use mathlib.Core.Path.{◌∙◌, ◌≡◌, ap, sym}
use Prim.Native.Nat.{ℕ}
use Rattle.blocks.specs.Entries.{entry_of}
use Rattle.blocks.specs.Refusals.{number_of}
use Rattle.blocks.specs.declared.Entry.{Entry}
use Rattle.named.proofs.SentLaws.{form-number, number-else, number-name, number-other}
use Rattle.named.proofs.sent.cause_at.Goals as goal

-- the entry that is looked at is that of the place
here : (s : List ℕ) (p : ℕ) {n m : ℕ} {x : Entry} → x ≡ entry_of s n m → n ≡ p → m ≡ p → x ≡ entry_of s p p
here s p e f g = rw (f, g) at e

pub returns-then-is_name : goal.returns-then-is_name
returns-then-is_name c =
    let e = here c.args.s.now c.args.place c.nth_entry-e.ensures c.from.ensures c.from-in-Form.ensures in
    number-name e c.is_name.ensures c.args.cause (ap number_of c.in-Form.is) c.if-is_name.true

pub returns-else-is_name : goal.returns-else-is_name
returns-else-is_name c =
    let e = here c.args.s.now c.args.place c.nth_entry-e.ensures c.from.ensures c.from-in-Form.ensures in
    sym c.in-Form.is ∙ number-other e c.is_name.ensures c.args.cause c.if-is_name.false

pub returns-in_default : goal.returns-in_default
returns-in_default c = number-else _ (λ q. c.in_default.not-Form (form-number _ q))
