-- A call on a desk in one buffer, way by way.
-- Assumes nothing.
use Rattle.std.proofs.Common.{◌≡◌, ℕ, ◌≤◌, ◌<◌, false, List, ◌++◌, drop, length, length-drop, take, Ok, Err, sym, ap, ap₂, ◌∙◌, arith}
use Rattle.std.proofs.lemmas.List.{take-append-drop}
use Rattle.base.specs.Stores.{stored}
use Rattle.blocks.specs.Reading.{Reading}
use Rattle.blocks.specs.declared.Refusal.{Refusal}
use Rattle.drafts.specs.declared.Call.{Call}
use Rattle.drafts.proofs.BufferLaws.{put-back}
use Rattle.drafts.proofs.SoundLaws.{short-unsound}
use Rattle.drafts.specs.Answer.{counters_after, counters_moved, desk_answer, memory_after, memory_moved, no_desk, output_after, write_answer}
use Rattle.drafts.specs.Buffer.{after_at, answer_at, buffer_of, counter_bytes, counters_in, memory_in, output_at, write_at}
use Rattle.drafts.specs.Sound.{sound}
use Rattle.drafts.specs.declared.Desk.{Desk}

module _ (b : List ℕ) where
  short-sound : length b < 20 → sound (counters_in b) (memory_in b) ≡ false
  short-sound h = short-unsound (counters_in b) (memory_in b) (let l = length-drop 20 b in omega arith)

  module _ (c : Call) where
    pub act-short : {r : Reading} {b' : List ℕ} → length b < 20 → r ≡ no_desk → b' ≡ b → (r ≡ answer_at b c) × (b' ≡ after_at b c)
    unfolding answer_at after_at desk_answer
    act-short h a e =
        let s = short-sound h in
        let t : answer_at b c ≡ no_desk = rw (answer_at, desk_answer, s) in
        (a ∙ sym t, rw (e, after_at, t))

    -- the memory that is lent is what comes after the counters
    module _ {d : Desk} {m m' : List ℕ} {r : Reading} (at : d ≡ counters_in b) (lent : m ≡ drop 20 b) (told : r ≡ desk_answer d m c)
        (left : m' ≡ memory_after d m c) where
      same-answer : r ≡ answer_at b c
      unfolding answer_at
      same-answer = told ∙ ap₂ (λ (x : Desk) (y : List ℕ). desk_answer x y c) at lent

      pub act-refused : {b' : List ℕ} {x : Refusal} → r ≡ Err x → b' ≡ take 20 b ++ m' → (r ≡ answer_at b c) × (b' ≡ after_at b c)
      unfolding after_at memory_after
      act-refused {b'} {x} e q =
          let t : answer_at b c ≡ Err x = sym same-answer ∙ e in
          let z : desk_answer d m c ≡ Err x = sym told ∙ e in
          let k : m' ≡ m = left ∙ rw (memory_after, z) in
          (same-answer, q ∙ ap (λ (y : List ℕ). take 20 b ++ y) (k ∙ lent) ∙ take-append-drop 20 b ∙ sym (rw (after_at, t)))

      pub act-moved : {d' : Desk} {b' : List ℕ} {n : ℕ} → 20 ≤ length b → d' ≡ counters_after d m c → r ≡ Ok n → b' ≡ stored (take 20 b ++ m') 0 (counter_bytes d')
          → (r ≡ answer_at b c) × (b' ≡ after_at b c)
      unfolding after_at memory_after counters_after
      act-moved {d'} {b'} {n} l f e q =
          let t : answer_at b c ≡ Ok n = sym same-answer ∙ e in
          let z : desk_answer d m c ≡ Ok n = sym told ∙ e in
          let k : m' ≡ memory_moved d m c = left ∙ rw (memory_after, z) in
          let g : d' ≡ counters_moved d c = f ∙ rw (counters_after, z) in
          let w : buffer_of d' m' ≡ buffer_of (counters_moved (counters_in b) c) (memory_moved (counters_in b) (memory_in b) c) =
          ap₂ buffer_of (g ∙ ap (λ (x : Desk). counters_moved x c) at) (k ∙ ap₂ (λ (x : Desk) (y : List ℕ). memory_moved x y c) at lent) in
          (same-answer, q ∙ put-back d' b m' l ∙ w ∙ sym (rw (after_at, t)))

  module _ (out : List ℕ) where
    pub write-short : {r : Reading} {after : List ℕ} → length b < 20 → r ≡ no_desk → after ≡ out → (r ≡ write_at b out) × (after ≡ output_at b out)
    unfolding write_at output_at write_answer output_after
    write-short h a e =
        let s = short-sound h in
        let t : write_at b out ≡ no_desk = rw (write_at, write_answer, s) in
        (a ∙ sym t, e ∙ sym (rw (output_at, output_after, t)))

    pub write-lent : {d : Desk} {m : List ℕ} {r : Reading} {after : List ℕ} → d ≡ counters_in b → m ≡ drop 20 b → r ≡ write_answer d m out
        → after ≡ output_after d m out → (r ≡ write_at b out) × (after ≡ output_at b out)
    unfolding write_at output_at
    write-lent at lent a e =
        (a ∙ ap₂ (λ (x : Desk) (y : List ℕ). write_answer x y out) at lent, e ∙ ap₂ (λ (x : Desk) (y : List ℕ). output_after x y out) at lent)
