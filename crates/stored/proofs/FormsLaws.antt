-- Laws of the stored form: two entries of a block exchanged, and which inputs are accepted in both forms.
-- Assumes nothing.
use Rattle.std.proofs.Common.{◌≡◌, ◌≢◌, ◌↔◌, ◌⊎◌, inl, inr, ⊎_elim, ℕ, zero, suc, ◌+◌, ◌*◌, ◌%◌, ◌<◌, ◌≤◌, true, false, ◌&&◌, eqb, ltb, leb, List, [], ◌∷◌, ◌++◌, length, get_or, Ok, refl, sym, ap, ◌∙◌, arith}
use Rattle.base.proofs.Tests.{and_left, and_right, bool_cases, eq-cases, eqb-eq, leb-le, lt-cases, ltb-lt, ne_eqb}
use Rattle.base.proofs.Lists.{listed}
use Rattle.base.specs.Exchange.{difference}
use Rattle.blocks.proofs.Format.EntryBytes.{length-entries}
use Rattle.blocks.proofs.Format.Counts.{used-before}
use Rattle.blocks.proofs.Format.Lengths.{some_block}
use Rattle.blocks.proofs.Format.WordBytes.{Bytes}
use Rattle.blocks.proofs.Refusing.EntryLaws.{nth-entries}
use Rattle.blocks.proofs.Refusing.FirstFault.{first-append}
use Rattle.blocks.proofs.Refusing.Legal.{owner-earlier}
use Rattle.blocks.proofs.Refusing.Readings.{accepted-finding, refused-finding}
use Rattle.blocks.proofs.RoundTrip.Accepting.{accepted-encodes, encoded-accepted, sound-of-accepted}
use Rattle.blocks.proofs.RoundTrip.Decoding.{decode-encode}
use Rattle.blocks.proofs.RoundTrip.StoredBlocks.{stored-exactly, stored-otherwise}
use Rattle.blocks.proofs.RoundTrip.Unbroken.{Passing, Unbroken, passing}
use Rattle.blocks.specs.Encoding.{block_body, block_bytes, block_front, blocks_for, encode, encode_from, encode_rows, joined}
use Rattle.blocks.specs.Entries.{entries_from, entries_of, entry_at, entry_bytes, entry_from, form_ok, kind_ok, name_ok, nth, number_ok}
use Rattle.blocks.specs.Exchange.{EntriesExchanged, entry_words}
use Rattle.blocks.specs.Faults.{Clean, Fault, Faulty, block_faults, first, length_over, rows_from}
use Rattle.blocks.specs.Frame.{blocks_in, entry_pos, plain, stored_frame, total_in, used_in}
use Rattle.blocks.specs.Owners.{chain, depth_of, depth_ok, owner_of, owner_ok}
use Rattle.blocks.specs.Promise.{Legal}
use Rattle.blocks.specs.Refusals.{refused}
use Rattle.blocks.specs.Words.{check_of, second_of, word_at, word_bytes}
use Rattle.blocks.specs.declared.Cause.TheVariants.{Check, Depth, Form, Walking}
use Rattle.blocks.specs.declared.Entry.{Entry}
use Rattle.blocks.specs.declared.Schema.TheVariants.{Description}
use Rattle.logic.specs.Tree.{tree}
use Rattle.stored.proofs.PromiseKept.{over-none, sound-stored, walk-accepted}
use Rattle.stored.proofs.StoredBytes.{decode-stored}
use Rattle.stored.proofs.RestoredLaws.{length-stored-entries, nth-stored}
use Rattle.stored.specs.Promise.{AcceptedBoth, BothForms, StoredExchange, nothing}
use Rattle.stored.specs.Stored.{encode_stored, owned_entry, stored_at, stored_bytes, stored_entries, stored_from, stored_nth}
use Rattle.stored.specs.Walked.{entries_under, entry_row, walk_of, walked}
use Rattle.stored.specs.Walking.{nearest, restored, stored_owner, stored_faults, stored_reading, stored_rows, walking_ok}
use Rattle.stored.specs.declared.StoredEntry.{StoredEntry}

-- ---- two entries exchanged

-- no line of an entry is number 2
rows-no-check : (xs : List StoredEntry) (n left q : ℕ) → first (rows_from (stored_rows xs) n left) ≡ Faulty Check q → ⊥
unfolding rows_from first
rows-no-check xs n zero q e = cc
rows-no-check xs n (suc left) q e =
    bool_cases (form_ok Description (owned_entry 0 (stored_nth xs n)))
    (λ a. bool_cases (walking_ok xs n)
    (λ b. bool_cases (leb (stored_nth xs n).depth 32)
    (λ d. rows-no-check xs (suc n) left q (rw (a, b, d) at e))
    (λ d. let w : Faulty Depth n ≡ Faulty Check q = rw (a, b, d) at e in cc))
    (λ b. let w : Faulty Walking n ≡ Faulty Check q = rw (a, b) at e in cc))
    (λ a. let w : Faulty Form n ≡ Faulty Check q = rw a at e in cc)

module _ (s t : List ℕ) (n b e p : ℕ) (acc : stored_reading s ≡ Ok n) (within : b < blocks_in s) (some : 1 ≤ p) (used : e + p < used_in s b)
    (x : EntriesExchanged stored_frame s t b e p) where
  clean : first (stored_faults s) ≡ Clean
  unfolding stored_reading
  clean = (accepted-finding 1 (total_in stored_frame s) (first (stored_faults s)) acc).1

  sound : Unbroken stored_frame Description s
  sound = (sound-stored s clean).blocks

  -- number 1 goes by the length, which is the same
  not-over : length_over 12 t ≡ false
  not-over = rw x.size (over-none s sound.length (sound-stored s clean).short)

  abbrev blocks : List Fault
  blocks = block_faults stored_frame t (blocks_in t) 0 (blocks_in t)

  abbrev rows : List Fault
  rows = rows_from (stored_rows (stored_entries t)) 1 (length (stored_entries t))

  exchanged-found : first (stored_faults t) ≡ first (blocks ++ rows)
  unfolding stored_faults first
  exchanged-found = rw (stored_faults, not-over) refl

  pub exchanged : (stored_reading t ≡ refused Check 1 (suc b))
      ↔ ((p * difference (entry_words stored_frame s b e) (entry_words stored_frame s b (e + p))) % 65536 ≢ 0)
  unfolding stored_reading
  exchanged = (
    λ q m.
        let f = refused-finding 1 (total_in stored_frame t) (first (stored_faults t)) q in
        let g : first rows ≡ Faulty Check (suc b) =
        sym (exchanged-found ∙ first-append blocks rows ∙ rw (stored-otherwise sound within some used x m) refl) ∙ f.1 in
        rows-no-check (stored_entries t) 1 (length (stored_entries t)) (suc b) g,
    λ m.
        let g = (stored-exactly sound within some used x).1 m in
        rw (exchanged-found, first-append blocks rows, g) refl,
  )

pub stored-exchange : StoredExchange
stored-exchange s t n b e p acc within some used x = exchanged s t n b e p acc within some used x

-- ---- both forms

-- the description of no entries, and 'nothing fits' alone, have the same bytes in both
none-alike : encode [] ≡ encode_stored []
unfolding encode encode_stored encode_rows blocks_for encode_from block_bytes block_front block_body joined
none-alike = refl

nothing-body : block_body plain 0 (entry_bytes nothing ∷ []) ≡ block_body stored_frame 0 (stored_bytes (record { kind = 6; depth = 0; name = 0; number = 0 }) ∷ [])
unfolding block_body joined entry_bytes stored_bytes word_bytes
nothing-body = refl

nothing-alike : encode (nothing ∷ []) ≡ encode_stored (record { kind = 6; depth = 0; name = 0; number = 0 } ∷ [])
unfolding encode encode_stored encode_rows blocks_for encode_from block_bytes block_front
nothing-alike = ap (λ (l : List ℕ). (l ++ word_bytes (second_of l 0)) ++ word_bytes (check_of (l ++ word_bytes (second_of l 0)) 0) ++ []) nothing-body

legal-none : Legal Description []
legal-none = record { form = λ n lo hi. absurd (omega arith); owner = λ n lo hi. absurd (omega arith); depth = λ n lo hi. absurd (omega arith) }

legal-nothing : Legal Description (nothing ∷ [])
unfolding form_ok name_ok number_ok owner_ok depth_ok depth_of chain owner_of nth
legal-nothing = record {
  form = λ n lo hi. let e : n ≡ 1 = omega arith in rw e refl;
  owner = λ n lo hi. let e : n ≡ 1 = omega arith in rw e refl;
  depth = λ n lo hi. let e : n ≡ 1 = omega arith in rw e refl;
}

walk-none : walk_of [] ≡ []
unfolding walk_of entries_under tree walked
walk-none = refl

walk-nothing : walk_of (nothing ∷ []) ≡ record { kind = 6; depth = 0; name = 0; number = 0 } ∷ []
unfolding walk_of entries_under entry_row tree walked
walk-nothing = refl

both-none : (i : ℕ) → AcceptedBoth i (encode [])
both-none i = record {
  old = 0;
  new = 0;
  as-description = encoded-accepted Description i [] legal-none tt (omega arith);
  as-stored = rw (none-alike, ← walk-none) (walk-accepted [] legal-none (omega arith));
}

both-nothing : (i : ℕ) → AcceptedBoth i (encode (nothing ∷ []))
both-nothing i = record {
  old = 1;
  new = 1;
  as-description = encoded-accepted Description i (nothing ∷ []) legal-nothing tt (omega arith);
  as-stored = rw (nothing-alike, ← walk-nothing) (walk-accepted (nothing ∷ []) legal-nothing (omega arith));
}

-- an entry of which number 4 does not apply and that has no name is 'nothing fits'
nameless : (e : Entry) → form_ok Description e ≡ true → e.name ≡ 0 → (e.kind ≡ 6) × (e.reserved ≡ 0) × (e.number ≡ 0)
unfolding form_ok name_ok number_ok
nameless e f z =
    let kk = kind_ok Description e.kind in
    let rr = eqb e.reserved 0 in
    let nn = name_ok e.kind e.name in
    let mm = number_ok e.kind e.number in
    let a : (rr && (nn && mm)) ≡ true = and_right kk (rr && (nn && mm)) f in
    let b : (nn && mm) ≡ true = and_right rr (nn && mm) a in
    let l : ltb 0 e.kind ≡ true = and_left (ltb 0 e.kind) (leb e.kind 6) (and_left kk (rr && (nn && mm)) f) in
    let h : leb e.kind 6 ≡ true = and_right (ltb 0 e.kind) (leb e.kind 6) (and_left kk (rr && (nn && mm)) f) in
    let six : e.kind ≡ 6 =
    eq-cases e.kind 6
    (λ q. q)
    (λ q. let w = and_left nn mm b in let v : eqb e.kind 9 ≡ true = rw (ne_eqb q, z) at w in absurd (let y : e.kind ≡ 9 = eqb-eq v in let g : e.kind ≤ 6 = leb-le h in omega arith)) in
    let m = and_right nn mm b in
    (six, eqb-eq (and_left rr (nn && mm) a), eqb-eq (rw six at m))

-- a list of no entries
none-there : {A : Type 0} (xs : List A) → length xs ≡ 0 → xs ≡ []
none-there [] e = refl
none-there (x ∷ xs) e = absurd (omega arith)

module _ (s : List ℕ) (bytes : Bytes s) (i : ℕ) (two : AcceptedBoth i s) where
  abbrev es : List Entry
  es = entries_of s

  abbrev xs : List StoredEntry
  xs = stored_entries s

  plainly : Unbroken plain Description s × Legal Description es
  plainly = let r = sound-of-accepted Description i s two.as-description in (r.blocks, r.entries)

  clean-both : first (stored_faults s) ≡ Clean
  unfolding stored_reading
  clean-both = (accepted-finding 1 (total_in stored_frame s) (first (stored_faults s)) two.as-stored).1

  -- a block that is not the last uses 63 entries in the one form, and 84 in the other
  one-block : blocks_in s ≡ 1
  one-block =
      let U = plainly.0 in
      let V = (sound-stored s clean-both).blocks in
      let some = some_block Description s U.length in
      lt-cases 1 (blocks_in s)
      (λ h.
      let p : Passing plain s (blocks_in s) 0 = passing plain (U.check 0 some) (U.frame 0 some) in
      let q : Passing stored_frame s (blocks_in s) 0 = passing stored_frame (V.check 0 some) (V.frame 0 some) in
      let a : used_in s 0 ≡ 63 = used-before plain (blocks_in s) 0 (used_in s 0) h p.used in
      let b : used_in s 0 ≡ 84 = used-before stored_frame (blocks_in s) 0 (used_in s 0) h q.used in
      absurd (omega (arith, a, b)))
      (λ h. omega arith)

  abbrev used : ℕ
  used = used_in s 0

  plain-total : total_in plain s ≡ used
  unfolding total_in
  plain-total = rw (total_in, one-block) (omega arith)

  stored-total : total_in stored_frame s ≡ used
  unfolding total_in
  stored-total = rw (total_in, one-block) (omega arith)

  first-plain : 1 ≤ used → nth es 1 ≡ entry_from s 4
  unfolding entry_at entry_pos
  first-plain h = nth-entries s 1 (omega arith) (omega (arith, plain-total))

  first-stored : 1 ≤ used → stored_nth xs 1 ≡ stored_from s 4
  unfolding stored_at entry_pos
  first-stored h = nth-stored s 0 (omega (arith, stored-total))

  second-stored : 2 ≤ used → stored_nth xs 2 ≡ stored_from s 10
  unfolding stored_at entry_pos
  second-stored h = nth-stored s 1 (omega (arith, stored-total))

  -- its owner is the top, so that it has no name in the stored form; then no number there, and so no name as a
  -- description's
  first-nothing : 1 ≤ used → entry_from s 4 ≡ nothing
  unfolding entry_from stored_from owner_of
  first-nothing h =
      let L = plainly.1 in
      let S = (sound-stored s clean-both).entries in
      let e = first-plain h in
      let x = first-stored h in
      let top : owner_of es 1 < 1 = owner-earlier L 1 (omega arith) (omega (arith, length-entries s, plain-total)) in
      let w : owner_of es 1 ≡ word_at s 6 = ap (λ (y : Entry). y.owner) e in
      let o : word_at s 6 ≡ 0 = omega (arith, w, top) in
      let f : form_ok Description (owned_entry 0 (stored_from s 4)) ≡ true = rw x at (S.form 1 (omega arith) (omega (arith, length-stored-entries s, stored-total))) in
      let a = nameless (owned_entry 0 (stored_from s 4)) f o in
      let g : form_ok Description (entry_from s 4) ≡ true = rw e at (L.form 1 (omega arith) (omega (arith, length-entries s, plain-total))) in
      let b = nameless (entry_from s 4) g a.2 in
      rw (b.0, b.1, o, a.2, b.2) refl

  at-most-one : used ≤ 1
  unfolding entry_from stored_from word_at form_ok
  at-most-one =
      lt-cases 1 used
      (λ h.
      let S = (sound-stored s clean-both).entries in
      let n = ap (λ (e : Entry). e.number) (first-nothing (omega arith)) in
      let z : get_or s 10 0 ≡ 0 = omega (arith, n) in
      let x = second-stored h in
      let f = rw x at (S.form 2 (omega arith) (omega (arith, length-stored-entries s, stored-total))) in
      let k : ltb 0 (get_or s 10 0) ≡ true = and_left (ltb 0 (get_or s 10 0)) (leb (get_or s 10 0) 6) (and_left _ _ f) in
      let y : 0 < get_or s 10 0 = ltb-lt k in
      absurd (omega arith))
      (λ h. h)

  alone : used ≢ 0 → es ≡ nothing ∷ []
  unfolding entries_of entries_from entry_at entry_pos
  alone z =
      let one : total_in plain s ≡ 1 = omega (arith, plain-total, at-most-one) in
      rw (entries_of, one) (ap (λ (e : Entry). e ∷ []) (first-nothing (omega arith)))

  pub only-two : (s ≡ encode []) ⊎ (s ≡ encode (nothing ∷ []))
  only-two =
      let own : encode es ≡ s = accepted-encodes Description i s bytes two.as-description in
      eq-cases used 0
      (λ z. inl (sym (ap encode (sym (none-there es (length-entries s ∙ plain-total ∙ z))) ∙ own)))
      (λ z. inr (sym (ap encode (sym (alone z)) ∙ own)))

-- and both say the same
same-none : entries_of (encode []) ≡ restored (stored_entries (encode []))
unfolding restored listed
same-none = decode-encode [] ∙ ap restored (sym (ap stored_entries none-alike ∙ decode-stored []))

same-nothing : entries_of (encode (nothing ∷ [])) ≡ restored (stored_entries (encode (nothing ∷ [])))
unfolding restored listed stored_owner nearest stored_nth
same-nothing =
    decode-encode (nothing ∷ [])
    ∙ ap restored (sym (ap stored_entries nothing-alike ∙ decode-stored (record { kind = 6; depth = 0; name = 0; number = 0 } ∷ [])))

pub both-forms : BothForms
both-forms s bytes i = (
  (only-two s bytes i, λ h. ⊎_elim (λ e. rw e (both-none i)) (λ e. rw e (both-nothing i)) h),
  λ two. ⊎_elim (λ e. rw e same-none) (λ e. rw e same-nothing) (only-two s bytes i two),
)
