-- What the facts of a record ask of an item, entry by entry of a place.
-- Assumes nothing.
use Rattle.std.proofs.Common.{◌≡◌, ℕ, zero, suc, ◌+◌, ◌-◌, ◌*◌, ◌/◌, ◌%◌, ◌<◌, ◌≤◌, Bool, true, false, cond, not, ◌&&◌, ◌||◌, eqb, leb, ◌≢◌, List, [], ◌∷◌, length, get_or, refl, sym, ap, ◌∙◌, arith}
use Rattle.std.specs.List.{list_any}
use Rattle.base.proofs.Tests.{and_zero, bool_cases, eq-cases, eq-eqb, eqb-self, iff-eq, ne_eqb}
use Rattle.logic.proofs.Records.Counting.{every-and, every-at, every-ext, every_of}
use Rattle.logic.specs.Record.{count, each_linked, every, fits, meets, successors}
use Rattle.items.proofs.DegreeLaws.{count-ext}
use Rattle.items.specs.code.Record.{record_in}
use Rattle.items.specs.code.Facts.{degree_in, has_in, item_in, leads_out, linked_in, target_in}

-- one item alone
every-one : (b : ℕ → Bool) (h : Bool) (t n : ℕ) → t < n → every (λ y. not (h && eqb t y) || b y) n ≡ (not h || b t)
every-one b h t n l =
    bool_cases h
    (λ q. rw q (iff-eq
    (λ e. let r = every-at (λ y. not (eqb t y) || b y) n e t l in rw (eqb-self t) at r)
    (λ e. every_of _ n (λ y m. eq-cases t y (λ z. rw (← z, eqb-self t) e) (λ z. rw (ne_eqb z))))))
    (λ q. rw q (every_of _ n (λ y m. refl)))

either : (a b c : Bool) → (not (a || b) || c) ≡ ((not a || c) && (not b || c))
either true b c = bool_cases c (λ q. rw q (bool_cases b (λ r. rw r) (λ r. rw r))) (λ q. rw q)
either false b c = refl

-- an item's links all lead into a set exactly where no fact leads out of it
pub every-out : (fs : List ℕ) (below : List Bool) (x : ℕ) → every (λ y. not (linked_in fs x y) || get_or below y false) 256 ≡ not (leads_out fs below x)
every-out [] below x = every_of _ 256 (λ y l. refl)
every-out (f ∷ fs) below x =
    every-ext _ _ 256 (λ y l. either (eqb (item_in f) x && eqb (target_in f) y) (linked_in fs x y) (get_or below y false))
    ∙ every-and (λ y. not (eqb (item_in f) x && eqb (target_in f) y) || get_or below y false) (λ y. not (linked_in fs x y) || get_or below y false) 256
    ∙ rw (every-one (λ y. get_or below y false) (eqb (item_in f) x) (target_in f) 256 (omega arith), every-out fs below x)
    (bool_cases (eqb (item_in f) x)
    (λ q. rw q (bool_cases (get_or below (target_in f) false) (λ r. rw r) (λ r. rw r)))
    (λ q. rw q))
