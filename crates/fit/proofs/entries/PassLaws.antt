-- Passes over all entries of an input whose tables have `most` cells: how one begins, and where the owner of a turn's entry stands.
-- Assumes nothing.
use Rattle.std.proofs.Common.{◌≡◌, ℕ, ◌+◌, ◌<◌, ◌≤◌, List, length, sym, ap, ◌∙◌, arith}
use denote.Ref.{Bor}
use Rattle.std.specs.Iterator.{item_count}
use Rattle.std.specs.Iterator.Runs.{CountFits}
use Rattle.std.specs.Iterator.Adapters.{enumerate_count, enumerate_source}
use Rattle.std.specs.declared.iter.Enumerate.{Enumerate}
use Rattle.blocks.proofs.Refusing.InOrder.{OverNumbered, left_of, steps}
use Rattle.blocks.proofs.Refusing.PassLaws.{Now, begun}
use Rattle.blocks.specs.Entries.{entries_of, entry_from}
use Rattle.blocks.specs.Owners.{owner_of}
use Rattle.blocks.specs.code.Blockwise.{Whole, entries_there}
use Rattle.blocks.specs.declared.Entry.{Entry}
use Rattle.blocks.specs.declared.in_order.InOrder.{InOrder}
use Rattle.fit.specs.code.Index.{Ordered}

-- it begins: it is over all entries, and may be called
pub begun-all : {s : List ℕ} {n most : ℕ} {made : InOrder} {counted it : Enumerate InOrder} → n ≡ length (entries_of s) → n < most → most ≤ 2048
    → Whole s n → left_of made ≡ entries_there s n → enumerate_source counted ≡ made → enumerate_count counted ≡ 0 → it ≡ counted
    → OverNumbered s n it × CountFits steps (item_count left_of) (enumerate_count it) (enumerate_source it)
begun-all e below small = begun (omega (arith, e)) (omega (arith, below, small))

-- the owner of a turn's entry stands before it
pub owner-here : {s : List ℕ} {n most k : ℕ} {xs : List (ℕ × Bor (List ℕ))} {b : Bor (List ℕ)} → Now s n xs k b
    → Ordered (entries_of s) → n ≡ length (entries_of s) → n < most → {e : Entry} {o : ℕ} → e ≡ entry_from b.now 0 → o ≡ e.owner → (owner_of (entries_of s) (k + 1) ≡ o) × (o < most)
unfolding owner_of
owner-here {s} {k = k} h O all small {e} {o} is own =
    let at : owner_of (entries_of s) (k + 1) ≡ o = sym (own ∙ ap (λ (x : Entry). x.owner) (is ∙ h.entry)) in
    (at, omega (arith, at, O.earlier (k + 1) (omega arith) (omega (arith, h.before, all)), h.before, small))
