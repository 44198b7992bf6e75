-- The 'every' rows of a place, pushed one by one, with the slots that they lead to.
-- Assumes nothing.
use Prim.Native.Nat.{◌%◌, ◌+◌, ◌<◌, ◌≤◌, suc, ℕ}
use lib.Dec.{eqb}
use lib.ListN.{get_or, length, set}
use mathlib.Core.Bool.{Bool, false, not, true}
use mathlib.Core.List.{List, [], ◌++◌, ◌∷◌}
use mathlib.Core.Logic.{◌≢◌}
use mathlib.Core.Option.{Option}
use mathlib.Core.Path.{◌∙◌, ◌≡◌, ap, refl, sym}
use native.Mathlib.Omega.{arith}
use Rattle.base.proofs.Tests.{bool_cases, eq-cases, eq-eqb, ge-ltb, gt-leb, lt-cases, lt-ltb, ne_eqb}
use Rattle.logic.proofs.TreeRows.FillLaws.{joined-none, joined-one, noted-append, noted-length}
use Rattle.logic.specs.Filling.{noted}
use Rattle.logic.specs.Normal.{at_most}
use Rattle.normal.proofs.emit.PushLaws.{Pushing, part_room, pushed-total, pushing-done, pushing-more, pushing-room, pushing-start}
use Rattle.normal.specs.code.Emitted.{Placing, cell_name, cell_slot, every_rows, every_slots, keep_cell, keep_in, packed_of}
use Rattle.normal.specs.code.ClassRuns.{cell_at}
use Rattle.passes.specs.code.Slots.{Cell, cell}
use Rattle.slots.specs.code.Tables.{high_in, high_part}

-- ---- the 'every' rows of one cell and of the others

pub every-step : (keep : ℕ → Bool → Option ℕ → Bool) (o : ℕ) (c : Cell) (q : List Cell) → every_rows keep o (c ∷ q) ≡ every_rows keep o (c ∷ []) ++ every_rows keep o q
unfolding every_rows
every-step keep o (cell j b n lo hi) q = bool_cases (keep j b hi) (λ z. rw z) (λ z. rw z)

pub slots-step : (keep : ℕ → Bool → Option ℕ → Bool) (c : Cell) (q : List Cell) → every_slots keep (c ∷ q) ≡ every_slots keep (c ∷ []) ++ every_slots keep q
unfolding every_slots
slots-step keep (cell j b n lo hi) q = bool_cases (keep j b hi) (λ z. rw z) (λ z. rw z)

pub every-length : (keep : ℕ → Bool → Option ℕ → Bool) (o : ℕ) (q : List Cell) → length (every_rows keep o q) ≡ length (every_slots keep q)
unfolding every_rows every_slots
every-length keep o [] = refl
every-length keep o (cell j b n lo hi ∷ q) = bool_cases (keep j b hi) (λ z. rw z (ap suc (every-length keep o q))) (λ z. rw z (every-length keep o q))

-- ---- the 'every' of one cell, pushed

pub link-none : (keep : ℕ → Bool → Option ℕ → Bool) (o : ℕ) (c : Cell) {rows below : List ℕ} {n : ℕ} → keep_cell keep c ≡ false
    → Placing (length rows) rows n (every_rows keep o (c ∷ [])) below (n + 1) (every_slots keep (c ∷ [])) rows n below
unfolding every_rows every_slots noted
link-none keep o (cell j b m lo hi) e = rw e (joined-none refl)

pub link-room : (keep : ℕ → Bool → Option ℕ → Bool) (o : ℕ) (c : Cell) (n : ℕ) {w : ℕ} → keep_cell keep c ≡ true → n + length (every_rows keep o (c ∷ [])) ≤ w → n < w
unfolding every_rows
link-room keep o (cell j b m lo hi) n e l =
    let l' = rw e at l in
    omega (arith, l')

pub link-one : (keep : ℕ → Bool → Option ℕ → Bool) (o : ℕ) (c : Cell) {rows below : List ℕ} {n x i : ℕ} → keep_cell keep c ≡ true → n < length rows
    → x ≡ packed_of 5 o (cell_name c) 0 → i ≡ cell_slot c → Placing (length rows) rows n (every_rows keep o (c ∷ [])) below (n + 1) (every_slots keep (c ∷ [])) (set rows n x) (n + 1) (set below (n + 1) i)
unfolding every_rows every_slots noted packed_of
link-one keep o (cell j b m lo hi) {rows} {below} {n} {x} {i} e h p q = rw (e, q) (joined-one refl h p)

-- ---- some done, and the rest to do

-- Of the 'every' rows of the cells q₀, those before the cells q are pushed and noted.
pub record Linking (w : ℕ) (keep : ℕ → Bool → Option ℕ → Bool) (o : ℕ) (q₀ : List Cell) (rows₀ : List ℕ) (count : ℕ) (below₀ : List ℕ) (q : List Cell) (rows : List ℕ) (n : ℕ) (below : List ℕ) : Type 0 where
  pub pushing : Pushing w rows₀ count (every_rows keep o q₀) rows n (every_rows keep o q)
  pub noted : noted below₀ (count + 1) (every_slots keep q₀) ≡ noted below (n + 1) (every_slots keep q)
  pub size : length below ≡ length below₀

pub linking-start : {keep : ℕ → Bool → Option ℕ → Bool} {o : ℕ} {q : List Cell} {rows : List ℕ} {count : ℕ} {below : List ℕ}
    → Linking (length rows) keep o q rows count below q rows count below
linking-start = record { pushing = pushing-start; noted = refl; size = refl }

pub linking-same : {w : ℕ} {keep : ℕ → Bool → Option ℕ → Bool} {o : ℕ} {q₀ : List Cell} {rows₀ : List ℕ} {count : ℕ} {below₀ : List ℕ} {q q' : List Cell} {rows : List ℕ} {n : ℕ} {below : List ℕ}
    → q ≡ q' → Linking w keep o q₀ rows₀ count below₀ q rows n below → Linking w keep o q₀ rows₀ count below₀ q' rows n below
linking-same e s = rw (← e) s

pub linking-more : {w : ℕ} {keep : ℕ → Bool → Option ℕ → Bool} {o : ℕ} {q₀ : List Cell} {rows₀ : List ℕ} {count : ℕ} {below₀ : List ℕ} {q : List Cell} {rows : List ℕ} {n : ℕ} {below : List ℕ} (c : Cell) (q' : List Cell) {rows' : List ℕ} {n' : ℕ} {below' : List ℕ}
    → Linking w keep o q₀ rows₀ count below₀ q rows n below → q ≡ c ∷ q'
    → Placing (length rows) rows n (every_rows keep o (c ∷ [])) below (n + 1) (every_slots keep (c ∷ [])) rows' n' below'
    → Linking w keep o q₀ rows₀ count below₀ q' rows' n' below'
linking-more {keep} {o} {n = n} {below = below} c q' {n' = n'} {below' = below'} s e p =
    let one = every_slots keep (c ∷ []) in
    let t : n' + 1 ≡ n + 1 + length one = omega (arith, pushed-total (every_rows keep o (c ∷ [])) p.pushed, every-length keep o (c ∷ [])) in
    record {
      pushing = pushing-more (every_rows keep o (c ∷ [])) s.pushing (ap (every_rows keep o) e ∙ every-step keep o c q') p.pushed;
      noted = s.noted ∙ rw (e, slots-step keep c q', noted-append below (n + 1) one (every_slots keep q'), t, p.notes);
      size = rw (p.notes, noted-length below (n + 1) one) s.size;
    }

pub linking-done : {w : ℕ} {keep : ℕ → Bool → Option ℕ → Bool} {o : ℕ} {q₀ : List Cell} {rows₀ : List ℕ} {count : ℕ} {below₀ : List ℕ} {q : List Cell} {rows : List ℕ} {n : ℕ} {below : List ℕ}
    → Linking w keep o q₀ rows₀ count below₀ q rows n below → q ≡ [] → Placing w rows₀ count (every_rows keep o q₀) below₀ (count + 1) (every_slots keep q₀) rows n below
unfolding every_rows every_slots noted
linking-done s e = record { pushed = pushing-done s.pushing (rw e); notes = sym (s.noted ∙ rw e) }

-- the first cell has room if all have
pub linking-room : (keep : ℕ → Bool → Option ℕ → Bool) (o : ℕ) {q₀ : List Cell} {rows₀ : List ℕ} {count : ℕ} {below₀ : List ℕ} {q : List Cell} {rows : List ℕ} {n : ℕ} {below : List ℕ} (c : Cell) (q' : List Cell) {w m : ℕ}
    → Linking w keep o q₀ rows₀ count below₀ q rows n below → q ≡ c ∷ q' → count + length (every_rows keep o q₀) ≤ m → n + length (every_rows keep o (c ∷ [])) ≤ m
linking-room keep o {n = n} c q' s e l =
    part_room n (every_rows keep o (c ∷ [])) (every_rows keep o q') (ap (every_rows keep o) e ∙ every-step keep o c q') (pushing-room s.pushing l)

-- ---- the bound of a kept slot

pub high_zero : (h : ℕ) → at_most 0 (high_in h) ≡ eqb h 0
high_zero h =
    lt-cases h 65536
    (λ z. rw (lt-ltb z) (eq-cases h 0 (λ e. rw e) (λ e. let l : 0 < h = omega arith in rw (gt-leb l, ne_eqb e))))
    (λ z. let e : h ≢ 0 = λ q. omega arith in rw (ge-ltb z, ne_eqb e))

-- ---- whether an 'every' is kept, by a tag of its slot

-- not where its place has nothing to say
pub kept-unmarked : (full t : List ℕ) (x : ℕ) {s : ℕ} → s ≡ x % 1024 → get_or full s 0 ≡ 0
    → not (eqb (get_or full s 0) 0) ≡ keep_cell (keep_in full) (cell_at t true x)
kept-unmarked full t x e z = rw (← e, eq-eqb z)

-- else by its bound
pub kept-marked : (full t : List ℕ) (x : ℕ) {s h : ℕ} → s ≡ x % 1024 → get_or full s 0 ≢ 0 → h ≡ high_part (get_or t s 0)
    → not (eqb h 0) ≡ keep_cell (keep_in full) (cell_at t true x)
kept-marked full t x {s} {h} e z b = rw (← e, ne_eqb z, ← b, high_zero h)
