-- What is promised of the stored form: refused exactly by the first line that applies, nothing written then, and each
-- call undone by the other.
-- Assumes nothing.
use Rattle.std.proofs.Common.{◌≡◌, ◌≢◌, ◌↔◌, ℕ, zero, suc, ◌-◌, ◌*◌, ◌/◌, ◌%◌, ◌<◌, ◌≤◌, true, false, not, ◌&&◌, ◌||◌, eqb, ltb, List, [], ◌++◌, map, length, take, drop, get_or, Ok, refl, sym, ap, ◌∙◌, arith}
use lib.ListN.{length-map}
use lib.Seq.{drop-append_seam, take-append_seam}
use Rattle.base.proofs.Tests.{neither_left, neither_right, and_both, and_left, and_right, eq-cases, eq-eqb, eqb-eq, ge-ltb, le-leb, leb-le, lt-cases, lt-ltb, not-to-false, or-none, or_cases, or_left, or_right, true_of_not}
use Rattle.blocks.proofs.Format.Lawful.{stored-lawful}
use Rattle.blocks.proofs.Format.WordBytes.{Bytes}
use Rattle.blocks.proofs.Refusing.BlockLaws.{blocks-none, none-blocks}
use Rattle.blocks.proofs.Refusing.FirstFault.{clean-none, first_found, found_first, none-clean}
use Rattle.blocks.proofs.Refusing.LevelLaws.{depth-under}
use Rattle.blocks.proofs.Refusing.Readings.{accepted-finding, reading-cases, refused-finding}
use Rattle.blocks.proofs.Refusing.RowLaws.{each_none, none-split, none_both, none_each}
use Rattle.blocks.proofs.RoundTrip.Accepting.{encoded-accepted, sound-of-accepted}
use Rattle.blocks.proofs.RoundTrip.Decoding.{decode-encode, length-encode, length-rows}
use Rattle.blocks.proofs.RoundTrip.Faithful.{entries-limit, total-rows-bound}
use Rattle.blocks.proofs.RoundTrip.StoredBlocks.{stored-faithful, stored-sound, stored-total}
use Rattle.blocks.proofs.RoundTrip.Unbroken.{Unbroken}
use Rattle.blocks.specs.Encoding.{blocks_for, encode, first_blocks}
use Rattle.blocks.specs.Entries.{entries_of, form_ok, kind_ok, name_ok, nth, number_ok, zero_entry}
use Rattle.blocks.specs.Faults.{Clean, Fault, Faulty, faults, first, frame_faults, length_over, length_wrong, rows_from}
use Rattle.blocks.specs.Frame.{Frame, blocks_in, plain, stored_frame, total_in}
use Rattle.blocks.specs.Owners.{chain, depth_of, depth_ok, owner_of, owner_ok}
use Rattle.blocks.specs.Promise.{Legal, NoneApplies}
use Rattle.blocks.specs.Reading.{Reading, answer, reading_of}
use Rattle.blocks.specs.Refusals.{refused}
use Rattle.blocks.specs.declared.Cause.{Cause}
use Rattle.blocks.specs.declared.Cause.TheVariants.{Room}
use Rattle.blocks.specs.declared.Entry.{Entry}
use Rattle.blocks.specs.declared.Schema.TheVariants.{Description}
use Rattle.stored.proofs.AnswerLaws.{answered-written, length-restored, nearest-most, over-more, restored-at}
use Rattle.stored.proofs.BothWays.{AllWalk, restored-walk, walk-all, walk-restored}
use Rattle.stored.proofs.RestoredLaws.{length-stored-entries}
use Rattle.stored.proofs.StoredBytes.{all-nth, decode-stored, rows-entries, rows-wide}
use Rattle.stored.proofs.TreeLaws.{place-said, walk-bare, walk-deep}
use Rattle.stored.proofs.WalkCount.{length-walk}
use Rattle.stored.specs.Answer.{answered, left_after, restored_in, restored_of, stored_in, stored_of}
use Rattle.stored.specs.Promise.{RefusedBy, RestoreRefused, Restores, StoreRefused, Stores, stored_blocks}
use Rattle.stored.specs.Promise.RefusedBy.{line as by-line, short as by-short}
use Rattle.stored.specs.Stored.{encode_stored, owned_entry, stored_bytes, stored_entries, stored_nth}
use Rattle.stored.specs.Walked.{bare, walk_of}
use Rattle.stored.specs.Walking.{may_own, nearest, restored, stored_faults, stored_owner, stored_reading, stored_rows, walking_ok}
use Rattle.stored.specs.declared.StoredEntry.{StoredEntry}

-- ---- refused exactly by the first line

zero-one : {A : Type 0} → ◌≡◌ {A = ℕ} 0 1 → A
zero-one e = absurd (omega arith)

module _ (fs : List Fault) (F : Frame) (total n : ℕ) (blocks out : List ℕ) where
  abbrev r : Reading
  r = answer 1 total (first fs)

  abbrev row : Cause → ℕ → ℕ → Type 0
  row = RefusedBy fs (512 * blocks_for F n) out

  why : (k : Cause) (i p : ℕ) → answered F r n out ≡ refused k i p → row k i p
  why k i p e =
      reading-cases r
      (λ k' i' p' q.
      let a : r ≡ refused k i p = q ∙ (rw q at e) in
      let f = refused-finding 1 total (first fs) a in
      rw f.0 (by-line (found_first fs k p f.1)))
      (λ m q.
      let e' = rw q at e in
      let c = (accepted-finding 1 total (first fs) q).1 in
      lt-cases (length out) (512 * blocks_for F n)
      (λ h.
      let w : answer 0 n (Faulty Room 0) ≡ refused k i p = rw (lt-ltb h) at e' in
      let f = refused-finding 0 n (Faulty Room 0) w in
      let g : Faulty Room 0 ≡ Faulty k p = f.1 in
      let kk : Room ≡ k = cc in
      let pp : 0 ≡ p = cc in
      rw (← kk, ← pp, f.0) (by-short (clean-none fs c) h))
      (λ h. let w : ◌≡◌ {A = Reading} (Ok n) (refused k i p) = rw (ge-ltb h) at e' in zero-one cc))

  because : (k : Cause) (i p : ℕ) → row k i p → answered F r n out ≡ refused k i p
  because k i p (by-line f) = rw (first_found fs k p f) refl
  because k i p (by-short N h) = rw (none-clean fs N, lt-ltb h) refl

  exactly : (k : Cause) (i p : ℕ) → (answered F r n out ≡ refused k i p) ↔ row k i p
  exactly k i p = (why k i p, because k i p)

  stays : (k : Cause) (i p : ℕ) → answered F r n out ≡ refused k i p → left_after F r blocks n out ≡ out
  stays k i p e = rw e refl

  -- what is answered else
  written-else : {m : ℕ} → answered F r n out ≡ Ok m
      → (m ≡ n) × (first fs ≡ Clean) × (512 * blocks_for F n ≤ length out) × (left_after F r blocks n out ≡ blocks ++ drop (512 * blocks_for F n) out)
  written-else {m} e =
      reading-cases r
      (λ k i p q. let w : ◌≡◌ {A = Reading} (refused k i p) (Ok m) = rw q at e in zero-one cc)
      (λ t q.
      let e' = rw q at e in
      lt-cases (length out) (512 * blocks_for F n)
      (λ h. let w : ◌≡◌ {A = Reading} (refused Room 0 0) (Ok m) = rw (lt-ltb h) at e' in zero-one cc)
      (λ h.
      let w : ◌≡◌ {A = Reading} (Ok n) (Ok m) = rw (ge-ltb h) at e' in
      let mm : m ≡ n = cc in
      (mm, (accepted-finding 1 total (first fs) q).1, h, rw e refl)))

-- to the stored form
module _ (d out : List ℕ) where
  pub store-exactly : (k : Cause) (i p : ℕ) → (stored_of d out ≡ refused k i p) ↔ StoreRefused d out k i p
  unfolding stored_of reading_of
  store-exactly = exactly (faults Description d) stored_frame (total_in plain d) (length (entries_of d)) [] out

  pub store-unchanged : (k : Cause) (i p : ℕ) → stored_of d out ≡ refused k i p → stored_in d out ≡ out
  unfolding stored_of stored_in reading_of
  store-unchanged = stays (faults Description d) stored_frame (total_in plain d) (length (entries_of d)) (encode_stored (walk_of (entries_of d))) out

-- and from it
module _ (s out : List ℕ) where
  pub restore-exactly : (k : Cause) (i p : ℕ) → (restored_of s out ≡ refused k i p) ↔ RestoreRefused s out k i p
  unfolding restored_of stored_reading
  restore-exactly = exactly (stored_faults s) plain (total_in stored_frame s) (length (stored_entries s)) [] out

  pub restore-unchanged : (k : Cause) (i p : ℕ) → restored_of s out ≡ refused k i p → restored_in s out ≡ out
  unfolding restored_of restored_in stored_reading
  restore-unchanged = stays (stored_faults s) plain (total_in stored_frame s) (length (stored_entries s)) (encode (restored (stored_entries s))) out

-- ---- what is accepted in the stored form

-- no line applies to an entry
pub record Standing (xs : List StoredEntry) : Type 0 where
  pub form : (n : ℕ) → 1 ≤ n → n ≤ length xs → form_ok Description (owned_entry 0 (stored_nth xs n)) ≡ true
  pub walks : AllWalk xs
  pub depth : (n : ℕ) → 1 ≤ n → n ≤ length xs → (stored_nth xs n).depth ≤ 32

pub record SoundStored (s : List ℕ) : Type 0 where
  pub blocks : Unbroken stored_frame Description s
  pub short : length s ≤ 6144
  pub entries : Standing (stored_entries s)

pub sound-stored : (s : List ℕ) → first (stored_faults s) ≡ Clean → SoundStored s
unfolding stored_faults NoneApplies
sound-stored s c =
    let xs : List StoredEntry = stored_entries s in
    let front : List Fault = frame_faults stored_frame 12 s in
    let rows : List Fault = rows_from (stored_rows xs) 1 (length xs) in
    let h = none-split front rows (clean-none (front ++ rows) c) in
    let m = blocks_in s in
    let f : NoneApplies front = h.0 in
    let l = over-more s f.0 in
    let each = λ (n : ℕ) (lo : 1 ≤ n) (hi : n ≤ length xs). none_each (stored_rows xs) 1 (length xs) h.1 n lo (omega arith) in
    record {
      blocks = record {
        length = l.0;
        check = λ k b. (blocks-none stored_frame s m 0 m f.1 k (omega arith) (omega arith)).0;
        frame = λ k b. (blocks-none stored_frame s m 0 m f.1 k (omega arith) (omega arith)).1;
      };
      short = l.1;
      entries = record {
        form = λ n lo hi. true_of_not _ (each n lo hi).0;
        walks = λ n lo hi. true_of_not _ (each n lo hi).1.0;
        depth = λ n lo hi. leb-le (true_of_not _ (each n lo hi).1.1.0);
      };
    }

-- they are 1,008 at most
stored-few : (s : List ℕ) → SoundStored s → length (stored_entries s) ≤ 1008
unfolding blocks_in
stored-few s S =
    let t : total_in stored_frame s ≤ 84 * (length s / 512) = total-rows-bound stored_frame stored-lawful S.blocks in
    omega (arith, length-stored-entries s, t, S.short)

-- and the other way
pub standing-clean : (s : List ℕ) → Unbroken stored_frame Description s → length_over 12 s ≡ false → Standing (stored_entries s) → first (stored_faults s) ≡ Clean
unfolding stored_faults NoneApplies
standing-clean s u l S =
    let xs : List StoredEntry = stored_entries s in
    let front : List Fault = frame_faults stored_frame 12 s in
    let rows : List Fault = rows_from (stored_rows xs) 1 (length xs) in
    let m = blocks_in s in
    none-clean (front ++ rows)
    (none_both front rows (l, none-blocks stored_frame s m 0 m (λ k lo hi. (u.check k (omega arith), u.frame k (omega arith))))
    (each_none (stored_rows xs) 1 (length xs)
    (λ n lo hi. (not-to-false (S.form n lo (omega arith)), (not-to-false (S.walks n lo (omega arith)), (not-to-false (le-leb (S.depth n lo (omega arith))), tt))))))

-- ---- the entries of a description that they are

module _ (xs : List StoredEntry) (S : Standing xs) where
  nth-restored : (n : ℕ) → 1 ≤ n → n ≤ length xs → nth (restored xs) n ≡ owned_entry (stored_owner xs n) (stored_nth xs n)
  unfolding nth
  nth-restored zero lo hi = absurd (omega arith)
  nth-restored (suc k) lo hi = restored-at xs k (omega arith)

  owner-restored : (n : ℕ) → 1 ≤ n → n ≤ length xs → owner_of (restored xs) n ≡ stored_owner xs n
  unfolding owner_of
  owner-restored n lo hi = ap (λ (e : Entry). e.owner) (nth-restored n lo hi)

  owner-before : (n : ℕ) → 1 ≤ n → stored_owner xs n < n
  unfolding stored_owner
  owner-before n lo = omega (arith, nearest-most xs (stored_nth xs n).depth (n - 1))

  -- at depth 0 the owner is the top, and below it an 'every' one less deep
  no-owner : (n k : ℕ) → (stored_nth xs n).depth ≡ 0 → nearest xs (stored_nth xs n).depth k ≡ 0
  unfolding nearest
  no-owner n zero z = refl
  no-owner n (suc k) z = rw (ge-ltb {m = (stored_nth xs (suc k)).depth} {n = (stored_nth xs n).depth} (omega arith)) (no-owner n k z)

  owner-top : (n : ℕ) → (stored_nth xs n).depth ≡ 0 → stored_owner xs n ≡ 0
  unfolding stored_owner
  owner-top n z = no-owner n (n - 1) z

  owner-above : (n : ℕ) → 1 ≤ n → n ≤ length xs → (stored_nth xs n).depth ≢ 0
      → ((stored_nth xs (stored_owner xs n)).kind ≡ 5) × (suc (stored_nth xs (stored_owner xs n)).depth ≡ (stored_nth xs n).depth)
  unfolding walking_ok
  owner-above n lo hi z =
      let y : StoredEntry = stored_nth xs (stored_owner xs n) in
      let d = (stored_nth xs n).depth in
      or_cases (eqb d 0) (may_own y d) (S.walks n lo hi)
      (λ q. absurd (z (eqb-eq q)))
      (λ q. (eqb-eq (and_left (eqb y.kind 5) (eqb (suc y.depth) d) q), eqb-eq (and_right (eqb y.kind 5) (eqb (suc y.depth) d) q)))

  owner-some : (n : ℕ) → 1 ≤ n → n ≤ length xs → (stored_nth xs n).depth ≢ 0 → stored_owner xs n ≢ 0
  unfolding stored_nth
  owner-some n lo hi z q = let a : (stored_nth xs 0).kind ≡ 5 = rw q at (owner-above n lo hi z).0 in absurd (omega arith)

  -- its depth is that of the stored entry
  depths : (m n : ℕ) → n ≤ m → 1 ≤ n → n ≤ length xs → depth_of (restored xs) n ≡ (stored_nth xs n).depth
  unfolding depth_of chain
  depths zero n le lo hi = absurd (omega arith)
  depths (suc m) zero le lo hi = absurd (omega arith)
  depths (suc m) (suc k) le lo hi =
      let n = suc k in
      let o = stored_owner xs n in
      let e = owner-restored n lo hi in
      eq-cases (stored_nth xs n).depth 0
      (λ z. let w : owner_of (restored xs) n ≡ 0 = e ∙ owner-top n z in rw (depth_of, chain, eq-eqb w) (sym z))
      (λ z.
      let a = owner-above n lo hi z in
      let before = owner-before n lo in
      let some = owner-some n lo hi z in
      let ih = depths m o (omega arith) (omega arith) (omega arith) in
      let under = depth-under (restored xs) n
      (λ k' b h. let f = owner-restored k' b (omega arith) in let l = owner-before k' b in omega arith) (omega (arith, e, before)) (λ q. some (sym e ∙ q)) in
      under ∙ ap (λ (j : ℕ). suc (depth_of (restored xs) j)) e ∙ ap suc ih ∙ a.1)

  pub restored-legal : Legal Description (restored xs)
  unfolding owner_ok depth_ok form_ok
  restored-legal =
      let l = length-restored xs in
      record {
        form = λ n lo hi. rw (nth-restored n lo (omega arith)) (S.form n lo (omega arith));
        owner = λ n lo hi.
            let e = owner-restored n lo (omega arith) in
            let before = owner-before n lo in
            eq-cases (stored_nth xs n).depth 0
            (λ z. or_left _ (eq-eqb (e ∙ owner-top n z)))
            (λ z.
            let a = owner-above n lo (omega arith) z in
            let some = owner-some n lo (omega arith) z in
            let k : (nth (restored xs) (stored_owner xs n)).kind ≡ 5 = ap (λ (y : Entry). y.kind) (nth-restored (stored_owner xs n) (omega arith) (omega arith)) ∙ a.0 in
            let b : ltb (owner_of (restored xs) n) n ≡ true = lt-ltb (omega (arith, e, before)) in
            let f : eqb (nth (restored xs) (owner_of (restored xs) n)).kind 5 ≡ true = eq-eqb (rw e k) in
            or_right (eqb (owner_of (restored xs) n) 0) (and_both b f));
        depth = λ n lo hi. let d = depths n n (omega arith) lo (omega arith) in le-leb (omega (arith, d, S.depth n lo (omega arith)));
      }

-- ---- the entries of a description in walking order

form-bare : (es : List Entry) → Legal Description es → (k : ℕ) → k < length es → form_ok Description (bare (get_or es k zero_entry)) ≡ true
unfolding form_ok nth
form-bare es L k h =
    let e : Entry = get_or es k zero_entry in
    let kk = kind_ok Description e.kind in
    let rr = eqb e.reserved 0 in
    let nn = name_ok e.kind e.name && number_ok e.kind e.number in
    let f : (kk && (rr && nn)) ≡ true = L.form (suc k) (omega arith) (omega arith) in
    and_both {a = kk} {b = nn} (and_left kk (rr && nn) f) (and_right rr nn (and_right kk (rr && nn) f))

pub walk-standing : (es : List Entry) → Legal Description es → Standing (walk_of es)
walk-standing es L = record {
  form = λ n lo hi. all-nth (λ (x : StoredEntry). form_ok Description (owned_entry 0 x) ≡ true) (walk_of es)
      (walk-bare (λ (e : Entry). form_ok Description e ≡ true) es (form-bare es L)) n lo hi;
  walks = walk-all es;
  depth = λ n lo hi. let d = all-nth (λ (x : StoredEntry). x.depth < 33) (walk_of es) (walk-deep es L) n lo hi in omega arith;
}

-- no more than 12 blocks
pub over-none : (s : List ℕ) → length_wrong Description s ≡ false → length s ≤ 6144 → length_over 12 s ≡ false
unfolding length_wrong
over-none s w l =
    let a = eqb (length s) 0 in
    let b = not (eqb (length s % 512) 0) in
    let c = ltb 8192 (length s) in
    let r = neither_right a (b || c) w in
    or-none (neither_left a (b || c) w) (or-none (neither_left b c r) (ge-ltb l))

module _ (es : List Entry) (L : Legal Description es) (few : length es ≤ 1008) where
  abbrev front : List ℕ
  front = encode_stored (walk_of es)

  front-entries : stored_entries front ≡ walk_of es
  front-entries = decode-stored (walk_of es)

  pub walk-accepted : stored_reading front ≡ Ok (length es)
  unfolding stored_reading encode_stored
  walk-accepted =
      let wide = rows-wide (walk_of es) in
      let size : length (map stored_bytes (walk_of es)) ≡ length es = length-map (walk_of es) stored_bytes ∙ length-walk es L in
      let s = stored-sound wide (omega (arith, size)) in
      let total = stored-total wide ∙ size in
      let c = standing-clean front s.0 (over-none front s.0.length (omega (arith, s.1))) (rw front-entries (walk-standing es L)) in
      rw (c, total) refl

  pub front-length : length front ≡ 512 * blocks_for stored_frame (length es)
  unfolding encode_stored
  front-length = length-rows stored_frame stored-lawful (rows-wide (walk_of es)) ∙ ap (λ (n : ℕ). 512 * blocks_for stored_frame n) (length-map (walk_of es) stored_bytes ∙ length-walk es L)

-- ---- each call undone by the other

-- the first blocks of what is written, and the bytes behind them
front-of : (X Y : List ℕ) {k : ℕ} → length X ≡ k → (take k (X ++ Y) ≡ X) × (drop k (X ++ Y) ≡ Y)
front-of X Y e = (rw (← e) (take-append_seam X Y), rw (← e) (drop-append_seam X Y))

module _ (d out : List ℕ) {n : ℕ} (F : stored_of d out ≡ Ok n) where
  abbrev des : List Entry
  des = entries_of d

  store-else : (n ≡ length des) × (first (faults Description d) ≡ Clean) × (512 * blocks_for stored_frame (length des) ≤ length out)
      × (stored_in d out ≡ encode_stored (walk_of des) ++ drop (512 * blocks_for stored_frame (length des)) out)
  unfolding stored_of stored_in reading_of
  store-else = written-else (faults Description d) stored_frame (total_in plain d) (length des) (encode_stored (walk_of des)) out F

  store-read : reading_of Description 1 d ≡ Ok (total_in plain d)
  unfolding reading_of
  store-read = rw store-else.1 refl

  pub stores : Stores d out n
  unfolding restored_of restored_in
  stores =
      let W = store-else in
      let sound = sound-of-accepted Description 1 d store-read in
      let L = sound.entries in
      let few : length des ≤ 1008 = omega (arith, entries-limit sound.blocks) in
      let X : List ℕ = encode_stored (walk_of des) in
      let P = front-of X (drop (512 * blocks_for stored_frame (length des)) out) (front-length des L few) in
      let blocks : stored_blocks n (stored_in d out) ≡ X = rw (W.0, W.3) P.0 in
      let acc = walk-accepted des L few in
      let entries = front-entries des L few in
      let size : length (walk_of des) ≡ length des = length-walk des L in
      record {
        count = W.0;
        room = rw W.0 W.2;
        later = rw (W.0, W.3) P.1;
        entries = rw blocks entries;
        accepted = rw (blocks, W.0) acc;
        back = λ out' h.
            let a = answered-written plain (stored_reading X) (encode (restored (walk_of des))) (length des) out' acc (rw W.0 at h) in
            rw (blocks, W.0, entries, size) (
              sym a.0,
              ap (λ (l : List ℕ). entries_of (first_blocks (length des) l)) (sym a.1)
                  ∙ ap entries_of (front-of (encode (restored (walk_of des))) (drop (512 * blocks_for plain (length des)) out')
                  (length-encode (restored (walk_of des)) ∙ ap (λ (k : ℕ). 512 * blocks_for plain k) (length-restored (walk_of des) ∙ size))).0
                  ∙ decode-encode (restored (walk_of des)),
            );
        same = λ R x. rw (place-said (restored (walk_of des)) 0, restored-walk des, ← place-said des 0) refl;
      }

module _ (s out : List ℕ) (bytes : Bytes s) {n : ℕ} (F : restored_of s out ≡ Ok n) where
  abbrev xs : List StoredEntry
  xs = stored_entries s

  restore-else : (n ≡ length xs) × (first (stored_faults s) ≡ Clean) × (512 * blocks_for plain (length xs) ≤ length out)
      × (restored_in s out ≡ encode (restored xs) ++ drop (512 * blocks_for plain (length xs)) out)
  unfolding restored_of restored_in stored_reading
  restore-else = written-else (stored_faults s) plain (total_in stored_frame s) (length xs) (encode (restored xs)) out F

  -- the input is the encoding of its entries
  own-bytes : encode_stored xs ≡ s
  unfolding encode_stored
  own-bytes = rw (rows-entries s bytes) (stored-faithful bytes (sound-stored s restore-else.1).blocks)

  pub restores : Restores s out n
  unfolding stored_of stored_in
  restores =
      let W = restore-else in
      let sound = sound-stored s W.1 in
      let L = restored-legal xs sound.entries in
      let rs : List Entry = restored xs in
      let size : length rs ≡ length xs = length-restored xs in
      let few : length rs ≤ 1008 = omega (arith, size, stored-few s sound) in
      let X : List ℕ = encode rs in
      let long : length X ≡ 512 * blocks_for plain (length xs) = length-encode rs ∙ ap (λ (k : ℕ). 512 * blocks_for plain k) size in
      let P = front-of X (drop (512 * blocks_for plain (length xs)) out) long in
      let blocks : first_blocks n (restored_in s out) ≡ X = rw (W.0, W.3) P.0 in
      let acc = λ (i : ℕ). encoded-accepted Description i rs L tt few in
      let again : walk_of rs ≡ xs = walk-restored xs sound.entries.walks in
      let same : encode_stored (walk_of rs) ≡ s = rw again own-bytes in
      let whole : 512 * blocks_for stored_frame (length rs) ≡ length s = sym (front-length rs L few) ∙ ap length same in
      record {
        count = W.0;
        room = rw W.0 W.2;
        later = rw (W.0, W.3) P.1;
        entries = rw blocks (decode-encode rs);
        accepted = λ i. rw (blocks, W.0) (acc i ∙ ap (λ (k : ℕ). Ok k) size);
        back = λ out' h.
            let a = answered-written stored_frame (reading_of Description 1 X) (encode_stored (walk_of rs)) (length rs) out' (acc 1) (omega (arith, whole, h)) in
            rw (blocks, W.0, decode-encode rs) (sym a.0 ∙ ap (λ (k : ℕ). Ok k) size, sym a.1 ∙ rw (same, whole) refl);
      }
