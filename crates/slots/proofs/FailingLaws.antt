-- The ways to the first entry that a normal form does not hold: refused, no room, none fails, or one does.
-- Assumes nothing.
use Prim.Native.Nat.{◌<◌, ◌≤◌, ℕ}
use lib.ListN.{length}
use mathlib.Core.List.{List}
use mathlib.Core.Logic.{◌≢◌}
use mathlib.Core.Option.{none}
use mathlib.Core.Path.{◌∙◌, ◌≡◌, ap}
use native.Mathlib.Omega.{arith}
use Rattle.base.proofs.Tests.{eq-cases, eq-eqb, ge-ltb, lt-cases, lt-ltb, ne_eqb}
use Rattle.blocks.proofs.Refusing.Legal.{owner-earlier, owner-kind}
use Rattle.blocks.proofs.Refusing.Readings.{readings-cases}
use Rattle.blocks.proofs.RoundTrip.Accepting.{accepted-by-none, none-of-accepted, refused-by-first, sound-of-accepted}
use Rattle.blocks.proofs.RoundTrip.Faithful.{entries-limit, entries-whole}
use Rattle.blocks.specs.Entries.{entries_of}
use Rattle.blocks.specs.Faults.{faults}
use Rattle.blocks.specs.Promise.{FirstOf, NoneApplies}
use Rattle.blocks.specs.Reading.{reading_of}
use Rattle.std.specs.Prelude.{Err, None, Ok, Some}
use Rattle.blocks.specs.Refusals.{number_of, refusal, refused}
use Rattle.blocks.specs.declared.Refusal.{Refusal}
use Rattle.blocks.specs.declared.Schema.TheVariants.{Description}
use Rattle.logic.specs.Background.{Background}
use Rattle.pairs.specs.Pairs.{pairs_reading, under}
use Rattle.slots.specs.Holding.{failing_in, holding_by, holding_of, holding_returned, holding_under, where_room}
use Rattle.slots.specs.code.Standing.{BothRead}
use Rattle.slots.specs.code.Tables.{Readable, slots_of}
use Rattle.slots.specs.declared.Unheld.{Unheld}
use Rattle.blocks.specs.declared.Cause.{Cause}
use Rattle.blocks.specs.declared.Cause.TheVariants.{Room}

-- what the passes are told of an accepted description
pub accepted-few : (i : ℕ) (d : List ℕ) {n : ℕ} → reading_of Description i d ≡ Ok n → Readable d n
accepted-few i d e =
    let s = sound-of-accepted Description i d e in
    let t = (none-of-accepted Description i d e).1 in
    (t, omega (arith, t, entries-limit s.blocks), record { earlier = owner-earlier s.entries; every = owner-kind s.entries }, rw t (entries-whole s.blocks))

-- ---- two inputs

module _ (b : Background) (room : ℕ) (c d : List ℕ) where
  -- [R25] input 1 first
  pub first-refused : {x : Refusal} → reading_of Description 1 c ≡ Err x → holding_under b room c d ≡ Err x
  unfolding holding_under
  first-refused e = rw (holding_under, e)

  module _ {n : ℕ} (e : reading_of Description 1 c ≡ Ok n) where
    -- [R25] then input 2
    pub second-refused : {x : Refusal} → reading_of Description 2 d ≡ Err x → holding_under b room c d ≡ Err x
    unfolding holding_under
    second-refused f = rw (holding_under, e, f)

    module _ {m : ℕ} (f : reading_of Description 2 d ≡ Ok m) where
      both_read : holding_under b room c d ≡ where_room room c (refused Room 0 0) (Ok (holding_by (length (slots_of b c)) (failing_in b c d)))
      unfolding holding_under
      both_read = rw (holding_under, e, f)

      -- [R25] 7 last
      pub no_room : room ≤ length (entries_of c) → holding_under b room c d ≡ refused Room 0 0
      no_room l = both_read ∙ rw (ge-ltb l)

      -- both are accepted, and there is room
      pub judged-read : length (entries_of c) < room → holding_under b room c d ≡ Ok (holding_by (length (slots_of b c)) (failing_in b c d))
      judged-read l = both_read ∙ rw (lt-ltb l)

  -- the five ways
  holding-cases : {X : Type 0} → ((k : Cause) (i p : ℕ) → reading_of Description 1 c ≡ refused k i p → holding_under b room c d ≡ refused k i p → X)
      → ((n : ℕ) (k : Cause) (i p : ℕ) → reading_of Description 1 c ≡ Ok n → reading_of Description 2 d ≡ refused k i p → holding_under b room c d ≡ refused k i p → X)
      → (BothRead c d → room ≤ length (entries_of c) → holding_under b room c d ≡ refused Room 0 0 → X)
      → (BothRead c d → failing_in b c d ≡ 0 → holding_under b room c d ≡ Ok None → X)
      → (BothRead c d → failing_in b c d ≢ 0 → holding_under b room c d ≡ Ok (Some (record { entry = failing_in b c d; used = length (slots_of b c) })) → X) → X
  holding-cases f g short all some =
      readings-cases (reading_of Description 1 c) (reading_of Description 2 d)
      (λ k i p e. f k i p e (first-refused e))
      (λ n k i p e e'. g n k i p e e' (second-refused e e'))
      (λ n m e e'.
      let r : BothRead c d = record { first = n; second = m; first_read = e; second-read = e' } in
      lt-cases (length (entries_of c)) room
      (λ l. eq-cases (failing_in b c d) 0
      (λ z. all r z (judged-read e e' l ∙ rw (eq-eqb z)))
      (λ z. some r z (judged-read e e' l ∙ rw (ne_eqb z))))
      (λ l. short r l (no_room e e' l)))

  -- what each answer says
  pub refused-by : {X : Type 0} {k : Cause} {i p : ℕ} → holding_under b room c d ≡ refused k i p → (reading_of Description 1 c ≡ refused k i p → X)
      → ((n : ℕ) → reading_of Description 1 c ≡ Ok n → reading_of Description 2 d ≡ refused k i p → X)
      → (BothRead c d → room ≤ length (entries_of c) → X) → X
  refused-by {X} {k} {i} {p} e f g h =
      holding-cases
      (λ k' i' p' q y. let g : refusal k' i' p' ≡ refusal k i p = cc in f (q ∙ ap Err g))
      (λ n k' i' p' r q y. let h : refusal k' i' p' ≡ refusal k i p = cc in g n r (q ∙ ap Err h))
      (λ r l y. h r l)
      (λ r z y. let w : ◌≡◌ {A = ℕ} 0 1 = cc in absurd (omega arith))
      (λ r z y. let w : ◌≡◌ {A = ℕ} 0 1 = cc in absurd (omega arith))

  pub all_hold : holding_under b room c d ≡ Ok None → BothRead c d × (failing_in b c d ≡ 0)
  all_hold e =
      holding-cases
      (λ k i p q y. let w : ◌≡◌ {A = ℕ} 0 1 = cc in absurd (omega arith))
      (λ n k i p r q y. let w : ◌≡◌ {A = ℕ} 0 1 = cc in absurd (omega arith))
      (λ r l y. let w : ◌≡◌ {A = ℕ} 0 1 = cc in absurd (omega arith))
      (λ r z y. (r, z))
      (λ r z y. let w : ◌≡◌ {A = ℕ} 0 1 = cc in absurd (omega arith))

  pub one-fails : {x : Unheld} → holding_under b room c d ≡ Ok (Some x) → BothRead c d × (failing_in b c d ≡ x.entry) × (x.entry ≢ 0)
  one-fails {x} e =
      holding-cases
      (λ k i p q y. let w : ◌≡◌ {A = ℕ} 0 1 = cc in absurd (omega arith))
      (λ m k i p r q y. let w : ◌≡◌ {A = ℕ} 0 1 = cc in absurd (omega arith))
      (λ r l y. let w : ◌≡◌ {A = ℕ} 0 1 = cc in absurd (omega arith))
      (λ r z y. let w : ◌≡◌ {A = ℕ} 0 1 = cc in absurd (omega arith))
      (λ r z y.
      let g : (record { entry = failing_in b c d; used = length (slots_of b c) }) ≡ x = cc in
      let f : failing_in b c d ≡ x.entry = ap (λ (h : Unheld). h.entry) g in
      (r, f, λ q. z (f ∙ q)))

-- ---- the numbers of each case [K6]

module _ (b : Background) (room : ℕ) (c d : List ℕ) where
  -- [R24] by the first that applies of input 1
  pub returned-first : {k : Cause} {p : ℕ} → FirstOf (faults Description c) k p
      → holding_returned (holding_under b room c d) ≡ record { all = none; entry = 0; number = number_of k; input = 1; place = p }
  returned-first f = ap holding_returned (first-refused b room c d (refused-by-first Description 1 c f))

  -- of input 2, where input 1 is accepted
  pub returned-second : {k : Cause} {p : ℕ} → NoneApplies (faults Description c) → FirstOf (faults Description d) k p
      → holding_returned (holding_under b room c d) ≡ record { all = none; entry = 0; number = number_of k; input = 2; place = p }
  returned-second n f = ap holding_returned (second-refused b room c d (accepted-by-none Description 1 c n) (refused-by-first Description 2 d f))

  module _ (n : NoneApplies (faults Description c)) (m : NoneApplies (faults Description d)) where
    -- then 7, [R23] at input 0
    pub returned-short : room ≤ length (entries_of c) → holding_returned (holding_under b room c d) ≡ record { all = none; entry = 0; number = 7; input = 0; place = 0 }
    returned-short l = ap holding_returned (no_room b room c d (accepted-by-none Description 1 c n) (accepted-by-none Description 2 d m) l)

    -- otherwise the number of the first that fails
    pub returned-failing : length (entries_of c) < room → (holding_returned (holding_under b room c d)).entry ≡ failing_in b c d
    returned-failing l =
        rw (judged-read b room c d (accepted-by-none Description 1 c n) (accepted-by-none Description 2 d m) l)
        (eq-cases (failing_in b c d) 0 (λ z. rw (eq-eqb z, z)) (λ z. rw (ne_eqb z)))

-- ---- under a list of pairs

module _ (P : List ℕ) (room : ℕ) (c d : List ℕ) where
  -- [R25] 11 before all else
  pub list-refused : {x : Refusal} → pairs_reading P ≡ Err x → holding_of P room c d ≡ Err x
  unfolding holding_of
  list-refused e = rw (holding_of, e)

  -- a list that is accepted stands for its background
  pub list_read : {n : ℕ} → pairs_reading P ≡ Ok n → holding_of P room c d ≡ holding_under (under P) room c d
  unfolding holding_of
  list_read e = rw (holding_of, e)
