-- What a desk holds after a call that is not refused, by its counters and its memory.
-- Assumes nothing.
use Rattle.std.proofs.Common.{◌≡◌, ◌≢◌, ℕ, suc, ◌+◌, ◌-◌, ◌*◌, ◌≤◌, ◌<◌, max, true, List, [], ◌∷◌, ◌++◌, length, get_or, get_or-set_other, get_or-set_same, length-set, set, take, unwrap_or, refl, sym, ap, ap₂, ◌∙◌, arith}
use Rattle.std.specs.List.{copy_within}
use Rattle.base.proofs.RowsLaws.{stored-before}
use Rattle.base.proofs.StoresLaws.{holds-stored}
use Rattle.base.proofs.Tests.{lt-cases}
use Rattle.base.specs.Stores.{stored}
use Rattle.blocks.proofs.Format.EntryBytes.{entry_read, length-entry}
use Rattle.blocks.specs.Entries.{entry_bytes, entry_from}
use Rattle.blocks.specs.declared.Entry.{Entry}
use Rattle.drafts.specs.declared.Call.TheVariants as call
use Rattle.drafts.specs.Draft.{Held, Kept, find, keep, moved, without, without_last}
use Rattle.drafts.proofs.CopyLaws.{copied, copied-before, copied-behind, length-copied, stored-behind}
use Rattle.drafts.proofs.MemoryLaws.{entries-last, entries-same, entries-take, length-entries}
use Rattle.drafts.proofs.PlaceLaws.{find-place, place-most}
use Rattle.drafts.proofs.SoundLaws.{few-entries, few-kept, few-stands}
use Rattle.drafts.proofs.StandLaws.{Same, stands-by, stands-more, stands-replaced, stands-without}
use Rattle.drafts.specs.Answer.{closed_up, counters_moved, memory_moved, place_in, place_of}
use Rattle.drafts.specs.Memory.{area, entries_at, held_in, stands_in}
use Rattle.drafts.specs.Sound.{counters_ok}
use Rattle.drafts.specs.declared.Desk.{Desk}

-- what is held, by its two parts
abbrev held_of : List Entry → List Kept → Held
held_of es ts = record { draft = es; stands = ts }

-- numbers with one left out
module _ (xs : List ℕ) (long : length xs ≡ 4) (i : ℕ) (l : i < 4) where
  length-closed : length (copy_within xs (i + 1) 4 i) ≡ 4
  length-closed = length-copied xs (i + 1) 4 i (omega arith) (omega arith) (omega arith) ∙ long

  pub closed-before : (h : ℕ) → h < i → get_or (closed_up xs i) h 0 ≡ get_or xs h 0
  unfolding closed_up
  closed-before h b = get_or-set_other _ 3 h 0 0 (λ e. omega arith) ∙ copied-before xs (i + 1) 4 i (omega arith) (omega arith) (omega arith) h b

  pub closed-behind : (h : ℕ) → i ≤ h → h < 3 → get_or (closed_up xs i) h 0 ≡ get_or xs (suc h) 0
  unfolding closed_up
  closed-behind h a b =
      get_or-set_other _ 3 h 0 0 (λ e. omega arith)
      ∙ copied xs (i + 1) 4 i (omega arith) (omega arith) (omega arith) h a (omega arith)
      ∙ ap (λ (k : ℕ). get_or xs k 0) (omega arith)

  pub closed-last : get_or (closed_up xs i) 3 0 ≡ 0
  unfolding closed_up
  closed-last = get_or-set_same _ 3 0 0 (omega (arith, length-closed))

  pub closed-length : length (closed_up xs i) ≡ 4
  unfolding closed_up
  closed-length = length-set _ 3 0 ∙ length-closed

-- ---- each call, on counters that are a desk's and a memory that is long enough

module _ (d : Desk) (m : List ℕ) (C : counters_ok d ≡ true) (size : 40320 ≤ length m) where
  -- stands whose bytes stay
  stands-stay : (m' : List ℕ) → ((k : ℕ) → 8064 ≤ k → get_or m' k 0 ≡ get_or m k 0)
      → stands_in m' d.names d.counts 0 d.stands ≡ stands_in m d.names d.counts 0 d.stands
  stands-stay m' same =
      stands-by m d.names d.counts m' d.names d.counts 0 0 d.stands
      (λ h b. record { number = refl; count = refl; bytes = λ k l. same (area (0 + h) + k) (omega arith) })

  pub held-more : (e : Entry) → d.count < 1008 → held_in (counters_moved d (call.Add e)) (memory_moved d m (call.Add e)) ≡ moved (held_in d m) (call.Add e)
  unfolding held_in counters_moved memory_moved
  held-more e few =
      let b = entry_bytes e in
      let n = d.count in
      let long = length-entry e in
      let m' = stored m (8 * n) b in
      let one : n + 1 ≡ suc n = omega arith in
      let at : 0 + 8 * n ≡ 8 * n = omega arith in
      let front = entries-same m m' 0 0 n (λ k l. stored-before m b (8 * n) (0 + k) (omega arith)) in
      let last : entry_from m' (8 * n) ≡ e = entry_read e (holds-stored m b (8 * n) (omega arith)) in
      let es : entries_at m' 0 (n + 1) ≡ entries_at m 0 n ++ (e ∷ []) = rw one (entries-last m' 0 n ∙ rw (at, last, front)) in
      ap₂ held_of es (stands-stay m' (λ k l. stored-behind m b (8 * n) k (omega arith)))

  pub held-less : held_in (counters_moved d call.TakeOff) (memory_moved d m call.TakeOff) ≡ moved (held_in d m) call.TakeOff
  unfolding held_in counters_moved memory_moved
  held-less =
      let l = length-entries m 0 d.count in
      let t : entries_at m 0 (d.count - 1) ≡ without_last (entries_at m 0 d.count) =
      sym (entries-take m 0 (d.count - 1) d.count (omega arith)) ∙ ap (λ (k : ℕ). take (k - 1) (entries_at m 0 d.count)) (sym l) in
      ap (λ (es : List Entry). held_of es (stands_in m d.names d.counts 0 d.stands)) t

  module _ (s : ℕ) where
    most : place_in d s ≤ d.stands
    most = let h = place-most s d.names 0 d.stands in omega arith

    stands≤ : d.stands ≤ 4
    stands≤ = few-stands d C

    count≤ : d.count ≤ 1008
    count≤ = few-entries d C

    pub held-back : place_in d s < d.stands → held_in (counters_moved d (call.GoBack s)) (memory_moved d m (call.GoBack s)) ≡ moved (held_in d m) (call.GoBack s)
    unfolding held_in counters_moved memory_moved
    held-back l =
        let c = get_or d.counts (place_in d s) 0 in
        let few : c ≤ 1008 = few-kept d C (place_in d s) l in
        let a = area (place_in d s) in
        let m' = copy_within m a (a + 8 * c) 0 in
        let fits : a + 8 * c ≤ length m = omega (arith, few, stands≤, size, l) in
        let lo : a ≤ a + 8 * c = omega arith in
        let to : 0 + (a + 8 * c - a) ≤ length m = omega (arith, fits) in
        let es : entries_at m' 0 c ≡ entries_at m a c =
        entries-same m m' a 0 c (λ k b. copied m a (a + 8 * c) 0 lo fits to (0 + k) (omega arith) (omega arith) ∙ ap (λ (x : ℕ). get_or m x 0) (omega arith)) in
        let ts = stands-stay m' (λ k b. copied-behind m a (a + 8 * c) 0 lo fits to k (omega (arith, few))) in
        let f = find-place s m d.names d.counts 0 d.stands (omega (arith, l)) in
        let g : unwrap_or (find s (stands_in m d.names d.counts 0 d.stands)) (entries_at m 0 d.count) ≡ entries_at m a c = rw f in
        ap₂ held_of (es ∙ sym g) ts

    pub held-dropped : length d.names ≡ 4 → length d.counts ≡ 4 → place_in d s < d.stands
        → held_in (counters_moved d (call.Drop s)) (memory_moved d m (call.Drop s)) ≡ moved (held_in d m) (call.Drop s)
    unfolding held_in counters_moved memory_moved
    held-dropped ln lc l =
        let p = place_in d s in
        let a = area (p + 1) in
        let m' = copy_within m a 40320 (area p) in
        let lo : a ≤ 40320 = omega (arith, stands≤, l) in
        let to : area p + (40320 - a) ≤ length m = omega (arith, size, lo) in
        let p4 : p < 4 = omega (arith, stands≤, l) in
        let es = entries-same m m' 0 0 d.count (λ k b. copied-before m a 40320 (area p) lo size to (0 + k) (omega (arith, count≤))) in
        let n : d.stands ≡ suc (d.stands - 1) = omega (arith, l) in
        let kept : (h : ℕ) → h < d.stands → get_or d.counts h 0 ≤ 1008 = few-kept d C in
        let before : (h : ℕ) → 0 ≤ h → h < p → Same m d.names d.counts m' (closed_up d.names p) (closed_up d.counts p) h h =
        λ h g b. record {
          number = closed-before d.names ln p p4 h b;
          count = closed-before d.counts lc p p4 h b;
          bytes = λ k q. let f = kept h (omega (arith, l, b)) in copied-before m a 40320 (area p) lo size to (area h + k) (omega (arith, f, q, b));
        } in
        let behind : (h : ℕ) → p ≤ h → h < 0 + (d.stands - 1) → Same m d.names d.counts m' (closed_up d.names p) (closed_up d.counts p) (suc h) h =
        λ h g b. record {
          number = closed-behind d.names ln p p4 h g (omega (arith, stands≤, b));
          count = closed-behind d.counts lc p p4 h g (omega (arith, stands≤, b));
          bytes = λ k q.
              let f = kept (suc h) (omega (arith, b)) in
              copied m a 40320 (area p) lo size to (area h + k) (omega (arith, g)) (omega (arith, f, q, b, stands≤))
              ∙ ap (λ (x : ℕ). get_or m x 0) (omega (arith, g));
        } in
        let ts = stands-without m d.names d.counts m' (closed_up d.names p) (closed_up d.counts p) s 0 (d.stands - 1) p
        (ap (place_of s d.names 0) n) (omega (arith, l)) before behind in
        ap₂ held_of es (ts ∙ ap (λ (k : ℕ). without s (stands_in m d.names d.counts 0 k)) (sym n))

    pub held-named : length d.names ≡ 4 → length d.counts ≡ 4 → place_in d s < 4
        → held_in (counters_moved d (call.Name s)) (memory_moved d m (call.Name s)) ≡ moved (held_in d m) (call.Name s)
    unfolding held_in counters_moved memory_moved
    held-named ln lc p4 =
        let p = place_in d s in
        let n = d.count in
        let m' = copy_within m 0 (8 * n) (area p) in
        let lo : 0 ≤ 8 * n = omega arith in
        let hi : 8 * n ≤ length m = omega (arith, size, count≤) in
        let to : area p + (8 * n - 0) ≤ length m = omega (arith, size, count≤, p4) in
        let es = entries-same m m' 0 0 n (λ k b. copied-before m 0 (8 * n) (area p) lo hi to (0 + k) (omega (arith, count≤, b))) in
        let new : entries_at m' (area p) n ≡ entries_at m 0 n =
        entries-same m m' 0 (area p) n (λ k b. copied m 0 (8 * n) (area p) lo hi to (area p + k) (omega arith) (omega (arith, b)) ∙ ap (λ (x : ℕ). get_or m x 0) (omega arith)) in
        let apart : (h : ℕ) → h < d.stands → h ≢ p → (k : ℕ) → k < 8 * get_or d.counts h 0 → get_or m' (area h + k) 0 ≡ get_or m (area h + k) 0 =
        λ h b z k q.
        let f = few-kept d C h b in
        lt-cases h p
        (λ y. copied-before m 0 (8 * n) (area p) lo hi to (area h + k) (omega (arith, f, q, y)))
        (λ y. copied-behind m 0 (8 * n) (area p) lo hi to (area h + k) (let w : suc p ≤ h = omega (arith, y, z) in omega (arith, count≤, w))) in
        let ts : stands_in m' (set d.names p s) (set d.counts p n) 0 (max d.stands (p + 1)) ≡ keep s (entries_at m 0 n) (stands_in m d.names d.counts 0 d.stands) =
        lt-cases p d.stands
        (λ y.
        let x : max d.stands (p + 1) ≡ d.stands = omega (arith, y) in
        rw x (stands-replaced s n (entries_at m 0 n) m m' d.names d.counts p (omega (arith, ln, p4)) (omega (arith, lc, p4)) new 0 d.stands refl (omega (arith, y))
        (λ h a b z k q. apart h (omega (arith, b)) z k q)))
        (λ y.
        let x : max d.stands (p + 1) ≡ suc d.stands = omega (arith, y, most) in
        rw x (stands-more s n (entries_at m 0 n) m m' d.names d.counts p (omega (arith, ln, p4)) (omega (arith, lc, p4)) new 0 d.stands refl (omega (arith, y, most))
        (λ h a b k q. apart h (omega (arith, b)) (λ z. omega (arith, y, b, z)) k q))) in
        ap₂ held_of es ts
