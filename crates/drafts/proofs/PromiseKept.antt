-- The promises on a desk in one buffer.
-- Assumes nothing.
use Rattle.std.proofs.Common.{◌≡◌, ℕ, zero, suc, ◌+◌, ◌*◌, ◌≤◌, ◌<◌, Bool, true, false, List, [], ◌∷◌, ◌++◌, drop, length, length-append, length-drop, get_or, Ok, ◌↔◌, refl, sym, subst, ap, ap₂, ◌∙◌, arith}
use lib.Seq.{drop_at, take_at}
use Rattle.base.proofs.Tests.{bool_cases, both_ways, ge-ltb, lt-cases, lt-ltb}
use Rattle.blocks.proofs.Refusing.FirstFault.{first_found, found_first}
use Rattle.blocks.proofs.Refusing.Readings.{accepted-finding, reading-cases, refused-finding}
use Rattle.blocks.proofs.RoundTrip.Accepting.{encoded-accepted}
use Rattle.blocks.proofs.RoundTrip.Decoding.{decode-encode, length-encode}
use Rattle.blocks.specs.Encoding.{blocks_for, encode, first_blocks}
use Rattle.blocks.specs.Faults.{Faulty, first}
use Rattle.blocks.specs.Frame.{plain}
use Rattle.blocks.specs.Reading.{answer}
use Rattle.blocks.specs.Refusals.{refused}
use Rattle.blocks.specs.Words.{word_at}
use Rattle.blocks.specs.declared.Cause.TheVariants as cause
use Rattle.blocks.specs.declared.Cause.{Cause}
use Rattle.blocks.specs.declared.Schema.TheVariants.{Description}
use Rattle.drafts.proofs.FaultLaws.{answered-first}
use Rattle.drafts.proofs.GrownLaws.{legal-of-grown}
use Rattle.drafts.proofs.HistoryLaws.{history}
use Rattle.drafts.specs.Draft.{Held, after, answered, empty, moved, run}
use Rattle.drafts.specs.Listed.{AllLeave, Grown, call_faults}
use Rattle.drafts.specs.declared.Call.TheVariants as call
use Rattle.drafts.specs.declared.Call.{Call}
use Rattle.drafts.proofs.AfterLaws.{Fours, fours-moved, held-moved, long-moved, sound-moved}
use Rattle.drafts.proofs.BufferLaws.{counters-back, counters-long, memory-back}
use Rattle.drafts.proofs.GivenExactly.{given-of, of-given, sound-held}
use Rattle.drafts.proofs.MemoryLaws.{length-entries}
use Rattle.drafts.proofs.SoundLaws.{long-enough}
use Rattle.drafts.specs.Answer.{counters_moved, desk_answer, memory_moved, no_desk, output_after, write_answer}
use Rattle.drafts.specs.Buffer.{after_at, answer_at, buffer_of, counter_bytes, counters_in, held_at, memory_in, output_at, run_at, write_at}
use Rattle.drafts.specs.Memory.{entries_at, held_in, stands_in}
use Rattle.drafts.specs.Promise.{Blank, DeskRefused, Drafts, GivenAt, Returns, WriteRefused, WritesOut, Zeros, absent, line, none, short}
use Rattle.drafts.specs.Sound.{sound}
use Rattle.drafts.specs.declared.Desk.{Desk}

-- ---- findings

cause-same : {k k' : Cause} {p p' : ℕ} → Faulty k p ≡ Faulty k' p' → k ≡ k'
cause-same e = cc

place-same : {k k' : Cause} {p p' : ℕ} → Faulty k p ≡ Faulty k' p' → p ≡ p'
place-same e = cc

-- ---- a buffer that is a desk's, or is not

abbrev sound_at : List ℕ → Bool
sound_at b = sound (counters_in b) (memory_in b)

module _ (b : List ℕ) where
  fours-in : Fours (counters_in b)
  unfolding counters_in
  fours-in = record { names = refl; counts = refl }

  given-at : sound_at b ≡ true → GivenAt b
  given-at h = given-of (counters_in b) (memory_in b) h

  sound-of : GivenAt b → sound_at b ≡ true
  sound-of G = of-given (counters_in b) (memory_in b) G

  not-given : sound_at b ≡ false → GivenAt b → ⊥
  not-given h G = both_ways (sound-of G) h

  answer-none : (c : Call) → sound_at b ≡ false → answer_at b c ≡ no_desk
  unfolding answer_at desk_answer
  answer-none c h = rw (answer_at, desk_answer, h)

  answer-given : (c : Call) → sound_at b ≡ true → answer_at b c ≡ answered (held_at b) c
  unfolding answer_at desk_answer held_at
  answer-given c h = rw (answer_at, desk_answer, h)

  -- what is left of a refused call, and of another
  after-refused : (c : Call) (k : Cause) (i p : ℕ) → answer_at b c ≡ refused k i p → after_at b c ≡ b
  unfolding after_at
  after-refused c k i p e = rw (after_at, e)

  after-moved : (c : Call) (n : ℕ) → answer_at b c ≡ Ok n
      → after_at b c ≡ buffer_of (counters_moved (counters_in b) c) (memory_moved (counters_in b) (memory_in b) c)
  unfolding after_at
  after-moved c n e = rw (after_at, e)

  -- a call that is accepted is made on a desk
  accepted-sound : (c : Call) (n : ℕ) → answer_at b c ≡ Ok n → sound_at b ≡ true
  accepted-sound c n e =
      bool_cases (sound_at b)
      (λ h. h)
      (λ h. absurd (let z : ◌≡◌ {A = ℕ} 0 1 = let y = sym e ∙ answer-none c h in cc in omega arith))

  module _ (c : Call) (n : ℕ) (e : answer_at b c ≡ Ok n) where
    h : sound_at b ≡ true
    h = accepted-sound c n e

    ok : answered (held_at b) c ≡ Ok n
    ok = sym (answer-given c h) ∙ e

    ok-in : answered (held_in (counters_in b) (memory_in b)) c ≡ Ok n
    unfolding held_at
    ok-in = ok

    back : counters_in (after_at b c) ≡ counters_moved (counters_in b) c
    back =
        let F = fours-moved (counters_in b) (memory_in b) h fours-in c n ok-in in
        ap counters_in (after-moved c n e)
        ∙ counters-back (counters_moved (counters_in b) c) (memory_moved (counters_in b) (memory_in b) c) F.names F.counts

    left-memory : memory_in (after_at b c) ≡ memory_moved (counters_in b) (memory_in b) c
    left-memory = ap memory_in (after-moved c n e) ∙ memory-back (counters_moved (counters_in b) c) (memory_moved (counters_in b) (memory_in b) c)

    moved-at : held_at (after_at b c) ≡ moved (held_at b) c
    unfolding held_at
    moved-at = ap₂ held_in back left-memory ∙ held-moved (counters_in b) (memory_in b) h fours-in c n ok-in

    sound-left : sound_at (after_at b c) ≡ true
    sound-left = ap₂ sound back left-memory ∙ sound-moved (counters_in b) (memory_in b) h fours-in c n ok-in

    length-left : length (after_at b c) ≡ length b
    length-left =
        let m = memory_moved (counters_in b) (memory_in b) c in
        let l = long-moved (counters_in b) (memory_in b) h fours-in c n ok-in in
        let k = counters-long (counters_moved (counters_in b) c) in
        let s = long-enough (counters_in b) (memory_in b) h in
        let d = length-drop 20 b in
        let a = length-append (counter_bytes (counters_moved (counters_in b) c)) m in
        ap length (after-moved c n e) ∙ (omega arith)

    left-count : n ≡ length (moved (held_at b) c).draft
    left-count = let f = accepted-finding 1 (length (moved (held_at b) c).draft) (first (call_faults (held_at b) c)) (sym (answered-first (held_at b) c) ∙ ok) in f.0

    pub drafts : Drafts b c n
    drafts = record {
      given = given-at h;
      still = given-of (counters_in (after_at b c)) (memory_in (after_at b c)) sound-left;
      holds = moved-at;
      left = left-count ∙ ap (λ (x : Held). length x.draft) (sym moved-at);
      size = length-left;
    }

  -- a refused call alters no byte
  pub keeps : (c : Call) (k : Cause) (i p : ℕ) → answer_at b c ≡ refused k i p → after_at b c ≡ b
  keeps c k i p e = after-refused c k i p e

  -- refused exactly by the first that applies
  row-of : (c : Call) (k : Cause) (i p : ℕ) → answer_at b c ≡ refused k i p → DeskRefused b c k i p
  row-of c k i p e =
      bool_cases (sound_at b)
      (λ h.
      let f = refused-finding 1 (length (moved (held_at b) c).draft) (first (call_faults (held_at b) c)) (sym (answered-first (held_at b) c) ∙ sym (answer-given c h) ∙ e) in
      subst (λ (x : ℕ). DeskRefused b c k x p) (sym f.0) (line (given-at h) (found_first (call_faults (held_at b) c) k p f.1)))
      (λ h.
      let g = refused-finding {A = ℕ} 1 0 (Faulty cause.Desk 0) (sym (answer-none c h) ∙ e) in
      let a : cause.Desk ≡ k = cause-same g.1 in
      let z : 0 ≡ p = place-same g.1 in
      subst (λ (x : ℕ). DeskRefused b c k x p) (sym g.0) (subst (λ (x : Cause). DeskRefused b c x 1 p) a (subst (λ (x : ℕ). DeskRefused b c cause.Desk 1 x) z (none (not-given h)))))

  of-row : (c : Call) (k : Cause) (i p : ℕ) → DeskRefused b c k i p → answer_at b c ≡ refused k i p
  of-row c _ _ _ (none g) =
      bool_cases (sound_at b) (λ h. absurd (g (given-at h))) (λ h. answer-none c h)
  of-row c k _ p (line G f) =
      answer-given c (sound-of G) ∙ answered-first (held_at b) c ∙ ap (answer 1 (length (moved (held_at b) c).draft)) (first_found (call_faults (held_at b) c) k p f)

  pub refused-exactly : (c : Call) (k : Cause) (i p : ℕ) → (answer_at b c ≡ refused k i p) ↔ DeskRefused b c k i p
  refused-exactly c k i p = (row-of c k i p, of-row c k i p)

  -- ---- any call on a desk

  after-held : (c : Call) → sound_at b ≡ true → held_at (after_at b c) ≡ after (held_at b) c
  unfolding after
  after-held c h =
      reading-cases (answer_at b c)
      (λ k i p e. ap held_at (after-refused c k i p e) ∙ sym (let r : answered (held_at b) c ≡ refused k i p = sym (answer-given c h) ∙ e in rw (after, r)))
      (λ n e. moved-at c n e ∙ sym (let r : answered (held_at b) c ≡ Ok n = sym (answer-given c h) ∙ e in rw (after, r)))

  after-sound : (c : Call) → sound_at b ≡ true → sound_at (after_at b c) ≡ true
  after-sound c h =
      reading-cases (answer_at b c)
      (λ k i p e. ap sound_at (after-refused c k i p e) ∙ h)
      (λ n e. sound-left c n e)

-- ---- lists of calls

run-sound : (b : List ℕ) (cs : List Call) → sound_at b ≡ true → sound_at (run_at b cs) ≡ true
unfolding run_at
run-sound b [] h = h
run-sound b (c ∷ cs) h = run-sound (after_at b c) cs (after-sound b c h)

pub run-held : (b : List ℕ) (cs : List Call) → sound_at b ≡ true → held_at (run_at b cs) ≡ run (held_at b) cs
unfolding run_at run
run-held b [] h = refl
run-held b (c ∷ cs) h = run-held (after_at b c) cs (after-sound b c h) ∙ ap (λ (d : Held). run d cs) (after-held b c h)

-- going back to a stand that is neither named again nor dropped since
pub returns : (b : List ℕ) (s n : ℕ) (later : List Call) → answer_at b (call.Name s) ≡ Ok n → AllLeave s later → Returns b s n later
returns b s n later e l =
    let h = accepted-sound b (call.Name s) n e in
    let ok : answered (held_at b) (call.Name s) ≡ Ok n = sym (answer-given b (call.Name s) h) ∙ e in
    let H = history (held_at b) s n later ok l in
    let a = after_at b (call.Name s) in
    let ha = after-sound b (call.Name s) h in
    let hr = run-sound a later ha in
    let same : held_at (run_at a later) ≡ run (after (held_at b) (call.Name s)) later =
    run-held a later ha ∙ ap (λ (d : Held). run d later) (after-held b (call.Name s) h) in
    let left : n ≡ length (held_at b).draft = left-count b (call.Name s) n e in
    record {
      accepted = answer-given (run_at a later) (call.GoBack s) hr ∙ ap (λ (d : Held). answered d (call.GoBack s)) same ∙ H.accepted ∙ ap Ok (sym left);
      yields = ap (λ (d : Held). d.draft) (after-held (run_at a later) (call.GoBack s) hr ∙ ap (λ (d : Held). after d (call.GoBack s)) same) ∙ H.yields;
    }

-- ---- writing out

module _ (b out : List ℕ) where
  draft-count : length (held_at b).draft ≡ (counters_in b).count
  unfolding held_at held_in
  draft-count = length-entries (memory_in b) 0 (counters_in b).count

  write-none : sound_at b ≡ false → write_at b out ≡ no_desk
  unfolding write_at write_answer
  write-none h = rw (write_at, write_answer, h)

  write-short : sound_at b ≡ true → length out < 512 * blocks_for plain (counters_in b).count → write_at b out ≡ refused cause.Room 0 0
  unfolding write_at write_answer
  write-short h l = rw (write_at, write_answer, h, lt-ltb l)

  write-long : sound_at b ≡ true → 512 * blocks_for plain (counters_in b).count ≤ length out → write_at b out ≡ Ok (counters_in b).count
  unfolding write_at write_answer
  write-long h l = rw (write_at, write_answer, h, ge-ltb l)

  write-cases : {X : Type 0} → (sound_at b ≡ false → X) → (sound_at b ≡ true → length out < 512 * blocks_for plain (counters_in b).count → X)
      → (sound_at b ≡ true → 512 * blocks_for plain (counters_in b).count ≤ length out → X) → X
  write-cases f g k =
      bool_cases (sound_at b) (λ h. lt-cases (length out) (512 * blocks_for plain (counters_in b).count) (λ l. g h l) (λ l. k h l)) f

  pub write-refused-exactly : (k : Cause) (i p : ℕ) → (write_at b out ≡ refused k i p) ↔ WriteRefused b out k i p
  write-refused-exactly k i p = (row k i p, cell k i p)
    where
      same : (k : Cause) (j q : ℕ) (k' : Cause) (i p : ℕ) → refused {A = ℕ} k j q ≡ refused k' i p → WriteRefused b out k j q → WriteRefused b out k' i p
      same k j q k' i p e r =
          let g = refused-finding {A = ℕ} j 0 (Faulty k q) {k = k'} {j = i} {p = p} e in
          subst (λ (x : ℕ). WriteRefused b out k' x p) (sym g.0) (subst (λ (x : Cause). WriteRefused b out x j p) (cause-same g.1) (subst (λ (x : ℕ). WriteRefused b out k j x) (place-same g.1) r))

      row : (k : Cause) (i p : ℕ) → write_at b out ≡ refused k i p → WriteRefused b out k i p
      row k i p e =
          write-cases
          (λ h. same cause.Desk 1 0 k i p (sym (write-none h) ∙ e) (absent (not-given b h)))
          (λ h l. same cause.Room 0 0 k i p (sym (write-short h l) ∙ e) (short (given-at b h) (rw draft-count l)))
          (λ h l. absurd (let z : ◌≡◌ {A = ℕ} 0 1 = let y = sym e ∙ write-long h l in cc in omega arith))

      cell : (k : Cause) (i p : ℕ) → WriteRefused b out k i p → write_at b out ≡ refused k i p
      cell _ _ _ (absent g) = bool_cases (sound_at b) (λ h. absurd (g (given-at b h))) (λ h. write-none h)
      cell _ _ _ (short G l) = write-short (sound-of b G) (rw draft-count at l)

  pub write-keeps : (k : Cause) (i p : ℕ) → write_at b out ≡ refused k i p → output_at b out ≡ out
  unfolding output_at output_after write_at
  write-keeps k i p e = rw (output_at, output_after, e)

  module _ (n : ℕ) (e : write_at b out ≡ Ok n) where
    written-sound : (sound_at b ≡ true) × (512 * blocks_for plain (counters_in b).count ≤ length out)
    written-sound =
        write-cases
        (λ h. absurd (let z : ◌≡◌ {A = ℕ} 0 1 = let y = sym e ∙ write-none h in cc in omega arith))
        (λ h l. absurd (let z : ◌≡◌ {A = ℕ} 0 1 = let y = sym e ∙ write-short h l in cc in omega arith))
        (λ h l. (h, l))

    written-count : n ≡ length (held_at b).draft
    written-count = let y : Ok n ≡ Ok (counters_in b).count = sym e ∙ write-long written-sound.0 written-sound.1 in let z : n ≡ (counters_in b).count = cc in z ∙ sym draft-count

    out-is : output_at b out ≡ encode (held_at b).draft ++ drop (512 * blocks_for plain (length (held_at b).draft)) out
    unfolding output_at output_after write_at held_at
    out-is = rw (output_at, output_after, e)

    pub writes-out : WritesOut b out n
    writes-out =
        let es = (held_at b).draft in
        let S = sound-held (counters_in b) (memory_in b) written-sound.0 in
        let G : Grown (held_at b).draft = unfold held_at in S.draft in
        let l = length-encode es in
        let c = written-count in
        let first : first_blocks n (output_at b out) ≡ encode es =
        ap (first_blocks n) out-is ∙ take_at (encode es) (drop (512 * blocks_for plain (length es)) out) (512 * blocks_for plain n) (l ∙ ap (λ (k : ℕ). 512 * blocks_for plain k) (sym c)) in
        let read = encoded-accepted Description 1 es (legal-of-grown es G) tt (let f = G.few in omega arith) in
        record {
          given = given-at b written-sound.0;
          count = c;
          room = rw (c, draft-count) written-sound.1;
          later = ap (drop (512 * blocks_for plain n)) out-is
              ∙ drop_at (encode es) (drop (512 * blocks_for plain (length es)) out) (512 * blocks_for plain n) (l ∙ ap (λ (k : ℕ). 512 * blocks_for plain k) (sym c))
              ∙ ap (λ (k : ℕ). drop (512 * blocks_for plain k) out) (sym c);
          accepted = rw first (read ∙ ap Ok (sym c));
          entries = rw first (decode-encode es);
        }

-- ---- the empty desk

abbrev four_zeros : List ℕ
four_zeros = 0 ∷ 0 ∷ 0 ∷ 0 ∷ []

zero-of-four : (j : ℕ) → get_or four_zeros j 0 ≡ 0
zero-of-four zero = refl
zero-of-four (suc zero) = refl
zero-of-four (suc (suc zero)) = refl
zero-of-four (suc (suc (suc zero))) = refl
zero-of-four (suc (suc (suc (suc j)))) = refl

-- counters of zeros
blank-none : Blank (record { count = 0; stands = 0; names = 0 ∷ 0 ∷ 0 ∷ 0 ∷ []; counts = 0 ∷ 0 ∷ 0 ∷ 0 ∷ [] })
blank-none = record { names = λ j lo hi. zero-of-four j; counts = λ j lo hi. zero-of-four j }

held-none : (m : List ℕ) → held_in (record { count = 0; stands = 0; names = 0 ∷ 0 ∷ 0 ∷ 0 ∷ []; counts = 0 ∷ 0 ∷ 0 ∷ 0 ∷ [] }) m ≡ empty
unfolding held_in entries_at stands_in
held-none m = refl

module _ (b : List ℕ) (Z : Zeros b) where
  zero-word : (k : ℕ) → word_at b k ≡ 0
  unfolding word_at
  zero-word k = rw (Z.each k, Z.each (k + 1))

  counters-none : counters_in b ≡ record { count = 0; stands = 0; names = 0 ∷ 0 ∷ 0 ∷ 0 ∷ []; counts = 0 ∷ 0 ∷ 0 ∷ 0 ∷ [] }
  unfolding counters_in
  counters-none = rw (zero-word 0, zero-word 2, zero-word 4, zero-word 6, zero-word 8, zero-word 10, zero-word 12, zero-word 14, zero-word 16, zero-word 18)

  held-empty : held_at b ≡ empty
  unfolding held_at
  held-empty = ap (λ (d : Desk). held_in d (memory_in b)) counters-none ∙ held-none (memory_in b)

  held-in-empty : held_in (counters_in b) (memory_in b) ≡ empty
  held-in-empty = ap (λ (d : Desk). held_in d (memory_in b)) counters-none ∙ held-none (memory_in b)

  given-empty : GivenAt b
  unfolding run
  given-empty =
      record {
        size = let s = Z.size in let d = length-drop 20 b in omega arith;
        blank = subst Blank (sym counters-none) blank-none;
        given = record { calls = []; gives = sym held-in-empty };
      }

  -- after any list of calls from the empty desk it holds what they give
  pub begins : (cs : List Call) → held_at (run_at b cs) ≡ run empty cs
  begins cs = run-held b cs (sound-of b given-empty) ∙ ap (λ (d : Held). run d cs) held-empty
