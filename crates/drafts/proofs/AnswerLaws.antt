-- What a desk answers, by its counters: one law for each way through a call.
-- Assumes nothing.
use Rattle.std.proofs.Common.{◌≡◌, ◌≢◌, ℕ, ◌+◌, ◌-◌, ◌*◌, ◌≤◌, true, false, eqb, leb, ltb, List, length, get_or, length-take, max, set, Ok, Err, sym, ap, ◌∙◌, arith}
use Rattle.std.specs.List.{copy_within}
use Rattle.base.proofs.Tests.{bool_cases, eq-eqb, ge-ltb, gt-leb, le-leb, lt-ltb, ltb-ge, ne_eqb}
use Rattle.base.specs.Stores.{stored}
use Rattle.blocks.specs.Entries.{entry_bytes}
use Rattle.blocks.specs.Reading.{Reading}
use Rattle.blocks.specs.Refusals.{refused}
use Rattle.blocks.specs.declared.Cause.TheVariants as cause
use Rattle.blocks.specs.declared.Entry.{Entry}
use Rattle.blocks.specs.declared.Refusal.{Refusal}
use Rattle.drafts.specs.declared.Call.TheVariants as call
use Rattle.drafts.specs.declared.Call.{Call}
use Rattle.drafts.specs.Draft.{answered, known, no_stand, without_last}
use Rattle.drafts.proofs.MemoryLaws.{length-entries}
use Rattle.drafts.proofs.PlaceLaws.{find-place, known-place, length-stands, place-most}
use Rattle.drafts.specs.Answer.{closed_up, counters_after, counters_moved, desk_answer, memory_after, memory_moved, no_desk, place_in}
use Rattle.drafts.specs.Memory.{area, held_in}
use Rattle.drafts.specs.Sound.{sound}
use Rattle.drafts.specs.code.Does.{Does}
use Rattle.drafts.specs.declared.Desk.{Desk}

-- ---- any call

module _ {d left : Desk} {m after : List ℕ} {r : Reading} (c : Call) where
  -- it is given no desk
  pub given-none : sound d m ≡ false → left ≡ d → r ≡ no_desk → after ≡ m → Does d m c left r after
  unfolding desk_answer counters_after memory_after
  given-none h l a b = record { answers = rw (a, desk_answer, h); counters = rw (l, counters_after, desk_answer, h); bytes = rw (b, memory_after, desk_answer, h) }

  -- it is refused
  pub refuses : (e : Refusal) → sound d m ≡ true → answered (held_in d m) c ≡ Err e → left ≡ d → r ≡ Err e → after ≡ m → Does d m c left r after
  unfolding desk_answer counters_after memory_after
  refuses e h q l a b =
      let t : desk_answer d m c ≡ Err e = rw (desk_answer, h) q in
      record { answers = a ∙ sym t; counters = rw (l, counters_after, t); bytes = rw (b, memory_after, t) }

  -- it is accepted
  pub moves : (n : ℕ) → sound d m ≡ true → answered (held_in d m) c ≡ Ok n → left ≡ counters_moved d c → r ≡ Ok n → after ≡ memory_moved d m c
      → Does d m c left r after
  unfolding desk_answer counters_after memory_after
  moves n h q l a b =
      let t : desk_answer d m c ≡ Ok n = rw (desk_answer, h) q in
      record { answers = a ∙ sym t; counters = rw (l, counters_after, t); bytes = rw (b, memory_after, t) }

-- ---- each

module _ (d : Desk) (m : List ℕ) where
  pub draft-length : length (held_in d m).draft ≡ d.count
  unfolding held_in
  draft-length = length-entries m 0 d.count

  pub takes-none : d.count ≡ 0 → answered (held_in d m) call.TakeOff ≡ refused cause.Empty 1 0
  unfolding answered
  takes-none z = let e : eqb (length (held_in d m).draft) 0 ≡ true = eq-eqb (draft-length ∙ z) in rw (answered, e)

  pub takes-last : d.count ≢ 0 → answered (held_in d m) call.TakeOff ≡ Ok (d.count - 1)
  unfolding answered
  takes-last z =
      let e : eqb (length (held_in d m).draft) 0 ≡ false = ne_eqb (λ q. z (sym draft-length ∙ q)) in
      let n : length (without_last (held_in d m).draft) ≡ d.count - 1 = let l = length-take (length (held_in d m).draft - 1) (held_in d m).draft in let k = draft-length in omega arith in
      rw (answered, e, n)

  pub full : d.count ≡ 1008 → (e : Entry) → answered (held_in d m) (call.Add e) ≡ refused cause.Full 1 0
  unfolding answered
  full z e = let q : leb 1008 (length (held_in d m).draft) ≡ true = le-leb (let k = draft-length in omega arith) in rw (answered, q)

  known-by : (s : ℕ) → known s (held_in d m).stands ≡ ltb (place_in d s) d.stands
  unfolding held_in
  known-by s = known-place s m d.names d.counts 0 d.stands ∙ ap (ltb (place_in d s)) (omega arith)

  pub names-zero : (s : ℕ) → s ≡ 0 → answered (held_in d m) (call.Name s) ≡ no_stand
  unfolding answered
  names-zero s z = rw (answered, eq-eqb z)

  pub names-fifth : (s : ℕ) → d.stands ≤ 4 → s ≢ 0 → place_in d s ≡ 4 → answered (held_in d m) (call.Name s) ≡ no_stand
  unfolding answered held_in
  names-fifth s few z p =
      let most = place-most s d.names 0 d.stands in
      let k : ltb (place_in d s) d.stands ≡ false = ge-ltb (omega arith) in
      let l : leb 4 (length (held_in d m).stands) ≡ true = le-leb (let n = length-stands m d.names d.counts 0 d.stands in omega arith) in
      rw (answered, ne_eqb z, known-by s, k, l)

  pub names : (s : ℕ) → d.stands ≤ 4 → s ≢ 0 → place_in d s ≢ 4 → answered (held_in d m) (call.Name s) ≡ Ok d.count
  unfolding answered held_in
  names s few z p =
      let most = place-most s d.names 0 d.stands in
      let n = length-stands m d.names d.counts 0 d.stands in
      bool_cases (ltb (place_in d s) d.stands)
      (λ k. rw (answered, ne_eqb z, known-by s, k, draft-length))
      (λ k. let l : leb 4 (length (held_in d m).stands) ≡ false = gt-leb (let g = ltb-ge k in omega arith) in rw (answered, ne_eqb z, known-by s, k, l, draft-length))

  pub goes-nowhere : (s : ℕ) → place_in d s ≡ d.stands → answered (held_in d m) (call.GoBack s) ≡ no_stand
  unfolding answered
  goes-nowhere s p = let k : ltb (place_in d s) d.stands ≡ false = ge-ltb (omega arith) in rw (answered, known-by s, k)

  pub goes-back : (s : ℕ) → place_in d s ≢ d.stands → answered (held_in d m) (call.GoBack s) ≡ Ok (get_or d.counts (place_in d s) 0)
  unfolding answered held_in
  goes-back s p =
      let most = place-most s d.names 0 d.stands in
      let k : ltb (place_in d s) d.stands ≡ true = lt-ltb (omega arith) in
      let f = find-place s m d.names d.counts 0 d.stands (omega arith) in
      rw (answered, known-by s, k, f, length-entries m (area (place_in d s)) (get_or d.counts (place_in d s) 0))

  pub drops-none : (s : ℕ) → place_in d s ≡ d.stands → answered (held_in d m) (call.Drop s) ≡ no_stand
  unfolding answered
  drops-none s p = let k : ltb (place_in d s) d.stands ≡ false = ge-ltb (omega arith) in rw (answered, known-by s, k)

  pub drops : (s : ℕ) → place_in d s ≢ d.stands → answered (held_in d m) (call.Drop s) ≡ Ok d.count
  unfolding answered
  drops s p =
      let most = place-most s d.names 0 d.stands in
      let k : ltb (place_in d s) d.stands ≡ true = lt-ltb (omega arith) in
      rw (answered, known-by s, k, draft-length)

-- ---- each way through a call, as the code has it: i is the place of the number

module _ {d left : Desk} {m after : List ℕ} {r : Reading} (h : sound d m ≡ true) where
  pub takes-off : d.count ≢ 0 → left ≡ record { count = d.count - 1; stands = d.stands; names = d.names; counts = d.counts } → r ≡ Ok (d.count - 1)
      → after ≡ m → Does d m call.TakeOff left r after
  unfolding counters_moved memory_moved
  takes-off z l a b = moves call.TakeOff (d.count - 1) h (takes-last d m z) l a b

  pub added : (e : Entry) {n : ℕ} → n ≡ d.count → answered (held_in d m) (call.Add e) ≡ Ok (d.count + 1)
      → left ≡ record { count = d.count + 1; stands = d.stands; names = d.names; counts = d.counts } → r ≡ Ok (d.count + 1)
      → after ≡ stored m (8 * n) (entry_bytes e) → Does d m (call.Add e) left r after
  unfolding counters_moved memory_moved
  added e at q l a b = moves (call.Add e) (d.count + 1) h q l a (rw at at b)

  module _ (s i : ℕ) (at : i ≡ place_in d s) where
    pub went-back : {n : ℕ} → i ≢ d.stands → n ≡ get_or d.counts i 0
        → left ≡ record { count = get_or d.counts i 0; stands = d.stands; names = d.names; counts = d.counts } → r ≡ Ok (get_or d.counts i 0)
        → after ≡ copy_within m (area i) (area i + 8 * n) 0 → Does d m (call.GoBack s) left r after
    unfolding counters_moved memory_moved
    went-back z e l a b =
        moves (call.GoBack s) (get_or d.counts (place_in d s) 0) h (goes-back d m s (λ q. z (at ∙ q)))
        (rw at at l) (rw at at a) (rw (e, at) at b)

    pub dropped : {names counts : List ℕ} → i ≢ d.stands → names ≡ copy_within d.names (i + 1) 4 i → counts ≡ copy_within d.counts (i + 1) 4 i
        → left ≡ record { count = d.count; stands = d.stands - 1; names = set names 3 0; counts = set counts 3 0 }
        → r ≡ Ok d.count → after ≡ copy_within m (8064 * (i + 2)) 40320 (area i) → Does d m (call.Drop s) left r after
    unfolding counters_moved memory_moved closed_up
    dropped z e f l a b =
        let two : i + 2 ≡ i + 1 + 1 = omega arith in
        moves (call.Drop s) d.count h (drops d m s (λ q. z (at ∙ q))) (rw (e, f, at) at l) a (rw (two, at) at b)

    pub named : {n k : ℕ} → d.stands ≤ 4 → s ≢ 0 → i ≢ 4 → n ≡ d.count → k ≡ max d.stands (i + 1)
        → left ≡ record { count = d.count; stands = k; names = set d.names i s; counts = set d.counts i d.count }
        → r ≡ Ok d.count → after ≡ copy_within m 0 (8 * n) (area i) → Does d m (call.Name s) left r after
    unfolding counters_moved memory_moved
    named few y z e f l a b =
        moves (call.Name s) d.count h (names d m s few y (λ q. z (at ∙ q))) (rw (f, at) at l) a (rw (e, at) at b)
