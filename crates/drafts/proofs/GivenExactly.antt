-- Counters and memory are a desk's exactly where the memory is long enough, what is not in use of the counters is 0, and some list of calls gives
-- what they hold.
-- Assumes nothing.
use Rattle.std.proofs.Common.{◌≡◌, ◌≢◌, ℕ, zero, suc, ◌+◌, ◌≤◌, ◌<◌, true, not, eqb, List, length, get_or, None, refl, ap, arith}
use Rattle.base.proofs.RangeLaws.{all-at, all_of}
use Rattle.base.proofs.Tests.{and_both, bool_cases, eq-cases, eq-eqb, eqb-ne, false_of_not, ge-ltb, le-leb, lt-cases, lt-ltb, ne_eqb, not-to-true}
use Rattle.blocks.proofs.Refusing.FirstFault.{clean-none, none-clean}
use Rattle.blocks.proofs.Refusing.Legal.{legal-none, none-legal}
use Rattle.blocks.specs.Faults.{Clean, Faulty, Finding, entry_faults}
use Rattle.blocks.specs.declared.Entry.{Entry}
use Rattle.blocks.specs.declared.Schema.TheVariants.{Description}
use Rattle.drafts.proofs.GivenLaws.{given-of-sound, sound-of-given}
use Rattle.drafts.proofs.GrownLaws.{grown-of-legal, legal-of-grown}
use Rattle.drafts.specs.Draft.{find}
use Rattle.drafts.specs.Listed.{Grown, Sound, Standing}
use Rattle.drafts.proofs.MemoryLaws.{length-entries}
use Rattle.drafts.proofs.PlaceLaws.{length-stands}
use Rattle.drafts.proofs.SoundLaws.{counted, drafted-held, drafted-stand, few-entries, few-kept, few-stands, long-enough, named-so, new-name, no-count, no-name}
use Rattle.drafts.specs.Memory.{area, entries_at, held_in, stands_in}
use Rattle.drafts.specs.Promise.{Blank, DeskGiven}
use Rattle.drafts.specs.Sound.{counters_ok, drafted, is_clean, sound, stand_ok}
use Rattle.drafts.specs.declared.Desk.{Desk}

-- ---- descriptions

pub clean-is : (f : Finding) → is_clean f ≡ true → f ≡ Clean
clean-is Clean h = refl
clean-is (Faulty k p) h = absurd (let z : ◌≡◌ {A = ℕ} 0 1 = cc in omega arith)

pub drafted-grown : (es : List Entry) → length es ≤ 1008 → drafted es ≡ true → Grown es
unfolding drafted
drafted-grown es few h = grown-of-legal es few (none-legal (clean-none (entry_faults Description es 1 (length es)) (clean-is _ h)))

pub grown-drafted : (es : List Entry) → Grown es → drafted es ≡ true
unfolding drafted
grown-drafted es G = ap is_clean (none-clean (entry_faults Description es 1 (length es)) (legal-none (legal-of-grown es G) tt))

-- ---- stands

module _ (m names counts : List ℕ) where
  find-none : (s j left : ℕ) → ((h : ℕ) → j ≤ h → h < j + left → s ≢ get_or names h 0) → find s (stands_in m names counts j left) ≡ None
  unfolding find stands_in
  find-none s j zero h = refl
  find-none s j (suc left) h =
      rw (ne_eqb (h j (omega arith) (omega arith))) (find-none s (suc j) left (λ k lo hi. h k (omega arith) (omega arith)))

  none-find : (s j left : ℕ) → find s (stands_in m names counts j left) ≡ None → (h : ℕ) → j ≤ h → h < j + left → s ≢ get_or names h 0
  unfolding find stands_in
  none-find s j zero f h lo hi = absurd (omega arith)
  none-find s j (suc left) f h lo hi =
      bool_cases (eqb s (get_or names j 0))
      (λ q. let f' = rw q at f in absurd (let z : ◌≡◌ {A = ℕ} 0 1 = cc in omega arith))
      (λ q. let f' = rw q at f in
      eq-cases h j
      (λ z. rw z (eqb-ne q))
      (λ z. none-find s (suc j) left f' h (omega arith) (omega arith)))

  pub standing-of : (j left : ℕ) → ((h : ℕ) → j ≤ h → h < j + left → get_or names h 0 ≢ 0)
      → ((h : ℕ) → j ≤ h → h < j + left → Grown (entries_at m (area h) (get_or counts h 0)))
      → ((h k : ℕ) → j ≤ h → h < k → k < j + left → get_or names h 0 ≢ get_or names k 0)
      → Standing (stands_in m names counts j left)
  unfolding stands_in
  standing-of j zero z g a = tt
  standing-of j (suc left) z g a = (
    z j (omega arith) (omega arith),
    find-none (get_or names j 0) (suc j) left (λ h lo hi. a j h (omega arith) (omega arith) (omega arith)),
    g j (omega arith) (omega arith),
    standing-of (suc j) left (λ h lo hi. z h (omega arith) (omega arith)) (λ h lo hi. g h (omega arith) (omega arith)) (λ h k lo l hi. a h k (omega arith) l (omega arith)),
  )

  pub standing-each : (j left : ℕ) → Standing (stands_in m names counts j left) → (h : ℕ) → j ≤ h → h < j + left
      → (get_or names h 0 ≢ 0) × Grown (entries_at m (area h) (get_or counts h 0))
  unfolding stands_in
  standing-each j zero S h lo hi = absurd (omega arith)
  standing-each j (suc left) S h lo hi =
      eq-cases h j
      (λ z. rw z (S.0, S.2))
      (λ z. standing-each (suc j) left S.3 h (omega arith) (omega arith))

  pub standing-apart : (j left : ℕ) → Standing (stands_in m names counts j left) → (h k : ℕ) → j ≤ h → h < k → k < j + left → get_or names h 0 ≢ get_or names k 0
  unfolding stands_in
  standing-apart j zero S h k lo l hi = absurd (omega arith)
  standing-apart j (suc left) S h k lo l hi =
      eq-cases h j
      (λ z. rw z (none-find (get_or names j 0) (suc j) left S.1 k (omega arith) (omega arith)))
      (λ z. standing-apart (suc j) left S.3 h k (omega arith) l (omega arith))

-- ---- both ways

module _ (d : Desk) (m : List ℕ) where
  pub blank-of : counters_ok d ≡ true → Blank d
  blank-of C = record { names = no-name d C; counts = no-count d C }

  pub sound-held : sound d m ≡ true → Sound (held_in d m)
  unfolding held_in
  sound-held h =
      let C = counted d m h in
      let few = few-stands d C in
      let n = length-stands m d.names d.counts 0 d.stands in
      record {
        draft = drafted-grown (entries_at m 0 d.count) (let f = few-entries d C in let l = length-entries m 0 d.count in omega arith) (drafted-held d m h);
        few = omega arith;
        stands = standing-of m d.names d.counts 0 d.stands
            (λ k lo hi. named-so d C k (omega arith))
            (λ k lo hi.
            let f = few-kept d C k (omega arith) in
            let l = length-entries m (area k) (get_or d.counts k 0) in
            drafted-grown (entries_at m (area k) (get_or d.counts k 0)) (omega arith) (drafted-stand d m h k (omega arith)))
            (λ i k lo l hi. eqb-ne (false_of_not _ (all-at (λ x. not (eqb (get_or d.names x 0) (get_or d.names k 0))) 0 k (new-name d C k (omega arith)) i (omega arith) (omega arith))));
      }

  stand-ok : Sound (held_in d m) → Blank d → (j : ℕ) → j < 4 → stand_ok d j ≡ true
  unfolding held_in
  stand-ok S B j l =
      lt-cases j d.stands
      (λ h.
      let e = standing-each m d.names d.counts 0 d.stands S.stands j (omega arith) (omega arith) in
      let n = length-entries m (area j) (get_or d.counts j 0) in
      let f = e.1.few in
      let few : get_or d.counts j 0 ≤ 1008 = omega arith in
      rw (lt-ltb h) (and_both (not-to-true (ne_eqb e.0)) (and_both (le-leb few)
      (all_of (λ x. not (eqb (get_or d.names x 0) (get_or d.names j 0))) 0 j
      (λ k lo hi. not-to-true (ne_eqb (standing-apart m d.names d.counts 0 d.stands S.stands k j (omega arith) (omega arith) (omega arith))))))))
      (λ h. rw (ge-ltb h) (and_both (eq-eqb (B.names j h l)) (eq-eqb (B.counts j h l))))

  pub held-sound : 40320 ≤ length m → Sound (held_in d m) → Blank d → sound d m ≡ true
  unfolding sound counters_ok held_in
  held-sound size S B =
      let n = length-entries m 0 d.count in
      let k = length-stands m d.names d.counts 0 d.stands in
      let f = S.draft.few in
      let g = S.few in
      let few : d.count ≤ 1008 = omega arith in
      let four : d.stands ≤ 4 = omega arith in
      and_both (le-leb size) (and_both
      (and_both (le-leb few) (and_both (le-leb four) (all_of (stand_ok d) 0 4 (λ j lo hi. stand-ok S B j (omega arith)))))
      (and_both
      (all_of (λ j. drafted (entries_at m (area j) (get_or d.counts j 0))) 0 d.stands
      (λ j lo hi. grown-drafted _ (standing-each m d.names d.counts 0 d.stands S.stands j (omega arith) (omega arith)).1))
      (grown-drafted _ S.draft)))

  -- 20 does not apply exactly where some list of calls gives what is held
  pub given-of : sound d m ≡ true → DeskGiven d m
  given-of h = record { size = long-enough d m h; blank = blank-of (counted d m h); given = given-of-sound (held_in d m) (sound-held h) }

  pub of-given : DeskGiven d m → sound d m ≡ true
  of-given G = held-sound G.size (sound-of-given (held_in d m) G.given) G.blank
