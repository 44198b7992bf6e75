-- The place below each slot, as it is written from its sorted cells.
-- Assumes nothing.
use Prim.Native.Nat.{◌≤◌, suc, ℕ}
use lib.Dec.{eqb}
use mathlib.Core.Bool.{false}
use mathlib.Core.List.{List, [], ◌∷◌}
use mathlib.Core.Path.{◌∙◌, ◌≡◌, refl, sym}
use native.Mathlib.Omega.{arith}
use Rattle.base.proofs.AscendingLaws.{sort-within}
use Rattle.base.proofs.Tests.{eq-cases, eqb-self, tests}
use Rattle.base.specs.Ascending.{sort}
use Rattle.logic.specs.Place.{Place}
use Rattle.passes.proofs.Cells.CellLaws.{cells-from, cells-skip}
use Rattle.passes.proofs.Cells.CellsWritten.{written-agree}
use Rattle.passes.specs.code.Forms.{form, formed, of_every, of_kind, written}
use Rattle.passes.specs.code.Pipeline.{before_cell, sorted_cells}
use Rattle.passes.specs.code.Slots.{EarlySlots, Slot, cell, cells}

-- each place from number k on is written from its cells
abbrev pub Formed : (ℕ → Place) → ℕ → List Slot → Type 0
Formed T k ss = (v : ℕ) → k ≤ v → T v ≡ written T (sort before_cell (cells k ss v))

formed-written : (k : ℕ) (ss : List Slot) (T : ℕ → Place) → EarlySlots k ss → ((j : ℕ) → k ≤ j → T j ≡ formed k ss j) → Formed T k ss
unfolding formed
formed-written k [] T e h v i = h v i ∙ (unfold cells sort written of_kind of_every in refl)
formed-written k (s ∷ ss) T e h v i =
    let later : (j : ℕ) → suc k ≤ j → T j ≡ formed (suc k) ss j = λ j g. h j (omega arith) ∙ (let z : eqb j k ≡ false = omega tests in rw z) in
    rw (cells-skip k s ss v e.0 i) (eq-cases v k
    (λ q. rw q (h k (omega arith) ∙ rw (eqb-self k) (written-agree (λ i. formed (suc k) ss i) T (sort before_cell (cells (suc k) ss k))
    (λ j b n lo hi m. sym (later j (cells-from (suc k) ss k j b n lo hi (sort-within before_cell (cells (suc k) ss k) (cell j b n lo hi) m)))))))
    (λ q. formed-written (suc k) ss T e.1 later v (omega arith)))

pub form-written : (ss : List Slot) → EarlySlots 1 ss → (v : ℕ) → form ss v ≡ written (form ss) (sorted_cells ss v)
unfolding form sorted_cells
form-written ss e v =
    let later : (j : ℕ) → 1 ≤ j → form ss j ≡ formed 1 ss j = λ j g. (let z : eqb j 0 ≡ false = omega tests in rw z) in
    eq-cases v 0
    (λ q. rw q (written-agree (λ i. formed 1 ss i) (form ss) (sort before_cell (cells 1 ss 0))
    (λ j b n lo hi m. sym (later j (cells-from 1 ss 0 j b n lo hi (sort-within before_cell (cells 1 ss 0) (cell j b n lo hi) m))))))
    (λ q. formed-written 1 ss (form ss) e later v (omega arith))

-- without the first slot, the same from the next number on
pub formed-next : (T : ℕ → Place) (k : ℕ) (s : Slot) (ss : List Slot) → EarlySlots k (s ∷ ss) → Formed T k (s ∷ ss) → Formed T (suc k) ss
formed-next T k s ss e h v i = h v (omega arith) ∙ rw (cells-skip k s ss v e.0 (omega arith))

-- and the place below the first slot
pub formed-here : (T : ℕ → Place) (k : ℕ) (s : Slot) (ss : List Slot) → EarlySlots k (s ∷ ss) → Formed T k (s ∷ ss)
    → T k ≡ written T (sort before_cell (cells (suc k) ss k))
formed-here T k s ss e h = h k (omega arith) ∙ rw (cells-skip k s ss k e.0 (omega arith))
