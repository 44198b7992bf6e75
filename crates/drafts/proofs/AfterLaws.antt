-- Any call on counters and memory does what it does on what they hold, and leaves a desk.
-- Assumes nothing.
use Rattle.std.proofs.Common.{◌≡◌, ℕ, suc, ◌+◌, ◌*◌, ◌≤◌, ◌<◌, true, leb, List, length, length-set, get_or, get_or-set_other, Ok, refl, sym, subst, ◌∙◌, arith}
use Rattle.base.proofs.StoresLaws.{length-stored}
use Rattle.base.proofs.Tests.{bool_cases, eq-cases, leb-gt}
use Rattle.blocks.specs.Entries.{entry_bytes}
use Rattle.blocks.specs.Reading.{Reading}
use Rattle.blocks.specs.Refusals.{refused}
use Rattle.blocks.specs.declared.Cause.{Cause}
use Rattle.blocks.specs.declared.Entry.{Entry}
use Rattle.drafts.proofs.GivenLaws.{sound-after}
use Rattle.drafts.specs.declared.Call.TheVariants as call
use Rattle.drafts.specs.declared.Call.{Call}
use Rattle.drafts.specs.Draft.{after, answered, moved}
use Rattle.drafts.specs.Listed.{Sound}
use Rattle.drafts.proofs.AnswerLaws.{draft-length, drops-none, goes-nowhere, names-fifth, names-zero}
use Rattle.drafts.proofs.CopyLaws.{length-copied}
use Rattle.drafts.proofs.GivenExactly.{blank-of, held-sound, sound-held}
use Rattle.drafts.proofs.MovesLaws.{closed-behind, closed-last, closed-length, held-back, held-dropped, held-less, held-more, held-named}
use Rattle.drafts.proofs.PlaceLaws.{place-most}
use Rattle.drafts.proofs.SoundLaws.{counted, few-entries, few-kept, few-stands, long-enough}
use Rattle.drafts.specs.Answer.{counters_moved, desk_answer, memory_moved, place_in}
use Rattle.drafts.specs.Memory.{area, held_in}
use Rattle.drafts.specs.Promise.{Blank}
use Rattle.drafts.specs.Sound.{counters_ok, sound}
use Rattle.drafts.specs.declared.Desk.{Desk}

-- an answer is not both
clash : {X : Type 0} {r : Reading} {n : ℕ} {k : Cause} {i p : ℕ} → r ≡ Ok n → r ≡ refused k i p → X
clash {X} e f = absurd (let z : ◌≡◌ {A = ℕ} 0 1 = let y = sym e ∙ f in cc in omega arith)

-- arrays of four
pub record Fours (d : Desk) : Type 0 where
  pub names : length d.names ≡ 4
  pub counts : length d.counts ≡ 4

module _ (d : Desk) (m : List ℕ) (h : sound d m ≡ true) (F : Fours d) where
  C : counters_ok d ≡ true
  C = counted d m h

  size : 40320 ≤ length m
  size = long-enough d m h

  -- ---- where the call is accepted

  -- what is then known of the place of a number
  pub named-place : (s n : ℕ) → answered (held_in d m) (call.Name s) ≡ Ok n → place_in d s < 4
  named-place s n e =
      let most = place-most s d.names 0 d.stands in
      let few = few-stands d C in
      eq-cases s 0
      (λ z. clash e (names-zero d m s z))
      (λ z. eq-cases (place_in d s) 4 (λ q. clash e (names-fifth d m s few z q)) (λ q. omega (arith, most, few, q)))

  back-place : (s n : ℕ) → answered (held_in d m) (call.GoBack s) ≡ Ok n → place_in d s < d.stands
  back-place s n e =
      let most = place-most s d.names 0 d.stands in
      eq-cases (place_in d s) d.stands (λ q. clash e (goes-nowhere d m s q)) (λ q. omega (arith, most, q))

  drop-place : (s n : ℕ) → answered (held_in d m) (call.Drop s) ≡ Ok n → place_in d s < d.stands
  drop-place s n e =
      let most = place-most s d.names 0 d.stands in
      eq-cases (place_in d s) d.stands (λ q. clash e (drops-none d m s q)) (λ q. omega (arith, most, q))

  room-left : (e : Entry) (n : ℕ) → answered (held_in d m) (call.Add e) ≡ Ok n → d.count < 1008
  unfolding answered
  room-left e n ok =
      bool_cases (leb 1008 (length (held_in d m).draft))
      (λ q. let ok' = rw q at ok in absurd (let z : ◌≡◌ {A = ℕ} 0 1 = cc in omega arith))
      (λ q. let l = draft-length d m in let g = leb-gt q in omega arith)

  -- what is held
  pub held-moved : (c : Call) (n : ℕ) → answered (held_in d m) c ≡ Ok n → held_in (counters_moved d c) (memory_moved d m c) ≡ moved (held_in d m) c
  held-moved (call.Add e) n ok = held-more d m C size e (room-left e n ok)
  held-moved call.TakeOff n ok = held-less d m C size
  held-moved (call.Name s) n ok = held-named d m C size s F.names F.counts (named-place s n ok)
  held-moved (call.GoBack s) n ok = held-back d m C size s (back-place s n ok)
  held-moved (call.Drop s) n ok = held-dropped d m C size s F.names F.counts (drop-place s n ok)

  pub fours-moved : (c : Call) (n : ℕ) → answered (held_in d m) c ≡ Ok n → Fours (counters_moved d c)
  unfolding counters_moved
  fours-moved (call.Add e) n ok = record { names = F.names; counts = F.counts }
  fours-moved call.TakeOff n ok = record { names = F.names; counts = F.counts }
  fours-moved (call.Name s) n ok = record { names = length-set d.names (place_in d s) s ∙ F.names; counts = length-set d.counts (place_in d s) d.count ∙ F.counts }
  fours-moved (call.GoBack s) n ok = record { names = F.names; counts = F.counts }
  fours-moved (call.Drop s) n ok =
      let p4 : place_in d s < 4 = let b = drop-place s n ok in let f = few-stands d C in omega arith in
      record { names = closed-length d.names F.names (place_in d s) p4; counts = closed-length d.counts F.counts (place_in d s) p4 }

  blank-moved : (c : Call) (n : ℕ) → answered (held_in d m) c ≡ Ok n → Blank (counters_moved d c)
  unfolding counters_moved
  blank-moved (call.Add e) n ok = let B = blank-of d m C in record { names = B.names; counts = B.counts }
  blank-moved call.TakeOff n ok = let B = blank-of d m C in record { names = B.names; counts = B.counts }
  blank-moved (call.GoBack s) n ok = let B = blank-of d m C in record { names = B.names; counts = B.counts }
  blank-moved (call.Name s) n ok =
      let B = blank-of d m C in
      let p = place_in d s in
      record {
        names = λ j lo hi. get_or-set_other d.names p j s 0 (λ z. omega arith) ∙ B.names j (omega arith) hi;
        counts = λ j lo hi. get_or-set_other d.counts p j d.count 0 (λ z. omega arith) ∙ B.counts j (omega arith) hi;
      }
  blank-moved (call.Drop s) n ok =
      let B = blank-of d m C in
      let p = place_in d s in
      let b = drop-place s n ok in
      let f = few-stands d C in
      let p4 : p < 4 = omega arith in
      record {
        names = λ j lo hi. eq-cases j 3
            (λ z. rw z (closed-last d.names F.names p p4))
            (λ z. closed-behind d.names F.names p p4 j (omega arith) (omega arith) ∙ B.names (suc j) (omega arith) (omega arith));
        counts = λ j lo hi. eq-cases j 3
            (λ z. rw z (closed-last d.counts F.counts p p4))
            (λ z. closed-behind d.counts F.counts p p4 j (omega arith) (omega arith) ∙ B.counts (suc j) (omega arith) (omega arith));
      }

  pub long-moved : (c : Call) (n : ℕ) → answered (held_in d m) c ≡ Ok n → length (memory_moved d m c) ≡ length m
  unfolding memory_moved
  long-moved (call.Add e) n ok = length-stored m (entry_bytes e) (8 * d.count)
  long-moved call.TakeOff n ok = refl
  long-moved (call.Name s) n ok =
      let p = named-place s n ok in let f = few-entries d C in let z = size in
      length-copied m 0 (8 * d.count) (area (place_in d s)) (omega arith) (omega arith) (omega arith)
  long-moved (call.GoBack s) n ok =
      let p = back-place s n ok in let f = few-kept d C (place_in d s) p in let g = few-stands d C in let z = size in
      length-copied m (area (place_in d s)) (area (place_in d s) + 8 * get_or d.counts (place_in d s) 0) 0 (omega arith) (omega arith) (omega arith)
  long-moved (call.Drop s) n ok =
      let p = drop-place s n ok in let g = few-stands d C in let z = size in
      length-copied m (area (place_in d s + 1)) 40320 (area (place_in d s)) (omega arith) z (omega arith)

  pub answer-held : (c : Call) → desk_answer d m c ≡ answered (held_in d m) c
  unfolding desk_answer
  answer-held c = rw (desk_answer, h)

  -- a desk is left
  pub sound-moved : (c : Call) (n : ℕ) → answered (held_in d m) c ≡ Ok n → sound (counters_moved d c) (memory_moved d m c) ≡ true
  unfolding after
  sound-moved c n ok =
      let l = long-moved c n ok in
      let z = size in
      let a : after (held_in d m) c ≡ moved (held_in d m) c = rw (after, ok) in
      let S = subst Sound (a ∙ sym (held-moved c n ok)) (sound-after (held_in d m) c (sound-held d m h)) in
      held-sound (counters_moved d c) (memory_moved d m c) (omega arith) S (blank-moved c n ok)
