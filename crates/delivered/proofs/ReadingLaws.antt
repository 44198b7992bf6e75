-- The ways that reading a delivered record goes: the list is refused, or the total, a block, an entry, an entry that completes a pair; or nothing is.
-- Assumes nothing.
use Rattle.std.proofs.Common.{◌≡◌, ◌≢◌, ℕ, ◌≤◌, ◌<◌, false, cond, eqb, leb, ltb, List, ◌++◌, length, Result, Ok, Err, sym, ap, ◌∙◌, arith}
use Rattle.base.proofs.SearchLaws.{none_first}
use Rattle.base.proofs.Tests.{and_left, and_right, bool_cases, eqb-ne, ltb-ge, ne_eqb, neither_left, neither_right, not-to-true, tests, true_of_not}
use Rattle.base.specs.Search.{first_from}
use Rattle.blocks.proofs.Refusing.FirstFault.{clean-none, first-append, or_else}
use Rattle.blocks.proofs.Refusing.Readings.{accepted-finding, reading-cases, refused-finding}
use Rattle.blocks.proofs.Refusing.RowLaws.{none_each, none-split}
use Rattle.blocks.specs.Entries.{entries_of, nth}
use Rattle.blocks.specs.Faults.{Clean, Fault, Finding, first, frame_faults, rows_from}
use Rattle.blocks.specs.Frame.{plain, total_in}
use Rattle.blocks.specs.Owners.{owner_of}
use Rattle.blocks.specs.Promise.{NoneApplies}
use Rattle.blocks.specs.Reading.{answer}
use Rattle.blocks.specs.Refusals.{refusal, refused}
use Rattle.blocks.specs.declared.Cause.{Cause}
use Rattle.blocks.specs.declared.Cause.TheVariants.{Clash, Item}
use Rattle.blocks.specs.declared.Entry.{Entry}
use Rattle.blocks.specs.declared.Refusal.{Refusal}
use Rattle.blocks.proofs.Format.EntryBytes.{length-entries}
use Rattle.clashes.proofs.Refusals.{refused-accepted}
use Rattle.blocks.proofs.Refusing.SearchedRows.{rows-searched}
use Rattle.clashes.proofs.Ways.{never-completes}
use Rattle.clashes.specs.Clash.{clash_rows, completes}
use Rattle.clashes.specs.Promise.{Apart, apart_ok}
use Rattle.delivered.specs.Promise.{LegalRecord, OneEach}
use Rattle.delivered.specs.Reading.{delivered_faults, delivered_reading, delivered_rows, is_item, items_ok, total_wrong}
use Rattle.pairs.specs.Pairs.{pair_count, pairs_reading}

-- what a pass that finds nothing wrong answers, and the answer by what one finds
abbrev pub Checked : Type 0
Checked = Result (Unit {0}) Refusal

abbrev pub right : Checked
right = Ok tt

abbrev pub checked : Finding → Checked
checked f = answer 1 tt f

-- ---- what no entry breaks

module _ (total : ℕ) (es : List Entry) (h : NoneApplies (rows_from (delivered_rows total es) 1 (length es))) where
  none-row : (n : ℕ) → 1 ≤ n → n ≤ length es → NoneApplies (delivered_rows total es n)
  none-row n lo hi = none_each (delivered_rows total es) 1 (length es) h n lo (omega arith)

  pub legal-of : LegalRecord total es
  unfolding NoneApplies
  legal-of = record { form = λ n lo hi. true_of_not _ (none-row n lo hi).0; items = λ n lo hi. true_of_not _ (none-row n lo hi).1.0 }

  pub one-each-of : OneEach es
  unfolding NoneApplies
  one-each-of = record { each = λ n lo hi. (none-row n lo hi).1.1.0 }

pub apart-of : (P : List ℕ) (es : List Entry) → NoneApplies (rows_from (clash_rows P es) 1 (length es)) → Apart P es
unfolding NoneApplies
apart-of P es h = record { each = λ n lo hi. not-to-true (none_each (clash_rows P es) 1 (length es) h n lo (omega arith)).0 }

-- ---- what completes a pair

module _ (P : List ℕ) (es : List Entry) (n : ℕ) where
  pub clash-nowhere : first_from (apart_ok P es) 1 n ≡ 0 → ◌≡◌ {A = Checked} right (checked (first (rows_from (clash_rows P es) 1 n)))
  clash-nowhere z = rw (rows-searched (completes P es) Clash 1 n (omega arith), z)

  pub clash-found : {p : ℕ} → p ≡ first_from (apart_ok P es) 1 n → p ≢ 0 → ◌≡◌ {A = Checked} (refused Clash 1 p) (checked (first (rows_from (clash_rows P es) 1 n)))
  clash-found e z = rw (rows-searched (completes P es) Clash 1 n (omega arith), ← e, ne_eqb z)

  -- under an empty list none does
  pub none-listed : length P ≡ 0 → ◌≡◌ {A = Checked} right (checked (first (rows_from (clash_rows P es) 1 n)))
  unfolding pair_count
  none-listed e =
      clash-nowhere (none_first (apart_ok P es) 1 n (λ j lo hi. not-to-true (never-completes P (omega arith) es j)))

-- ---- the total

abbrev pub total_read : ℕ → Checked
total_read total = cond (total_wrong total) (refused Item 1 0) right

pub total-right : (total : ℕ) → total_read total ≡ right → total_wrong total ≡ false
total-right total e =
    bool_cases (total_wrong total)
    (λ q. let z : ◌≡◌ {A = Checked} (refused Item 1 0) right = rw q at e in let y : ◌≡◌ {A = ℕ} 0 1 = cc in absurd (omega arith))
    (λ q. q)

pub total-bounds : (total : ℕ) → total_wrong total ≡ false → (1 ≤ total) × (total ≤ 256)
total-bounds total q =
    let a = eqb-ne (neither_left (eqb total 0) (ltb 256 total) q) in
    (omega arith, ltb-ge (neither_right (eqb total 0) (ltb 256 total) q))

-- where all entries are right, each owner is an item
pub owners-below : (total : ℕ) (es : List Entry) → total_read total ≡ right → checked (first (rows_from (delivered_rows total es) 1 (length es))) ≡ right
    → (k : ℕ) → 1 ≤ k → k ≤ length es → owner_of es k < 257
unfolding items_ok owner_of
owners-below total es t f k lo hi =
    let rows = rows_from (delivered_rows total es) 1 (length es) in
    let none = clean-none rows (accepted-finding 1 tt (first rows) f).1 in
    let own = and_left (is_item total (nth es k).owner) _ ((legal-of total es none).items k lo hi) in
    let most = and_right (ltb 0 (nth es k).owner) (leb (nth es k).owner total) own in
    omega (tests, most, (total-bounds total (total-right total t)).1)

-- ---- the whole

module _ (P : List ℕ) (total : ℕ) (s : List ℕ) where
  abbrev rows : List Fault
  rows = rows_from (delivered_rows total (entries_of s)) 1 (length (entries_of s))

  abbrev clashes : List Fault
  clashes = rows_from (clash_rows P (entries_of s)) 1 (length (entries_of s))

  pub list-refused : {k : Cause} {i p : ℕ} → pairs_reading P ≡ refused k i p → delivered_reading P total s ≡ refused k i p
  unfolding delivered_reading
  list-refused e = rw (delivered_reading, e)

  module _ {m : ℕ} (e : pairs_reading P ≡ Ok m) where
    pub under-list : delivered_reading P total s ≡ answer 1 (total_in plain s) (first (delivered_faults P total s))
    unfolding delivered_reading
    under-list = rw (delivered_reading, e)

    pub total-refused : {k : Cause} {i p : ℕ} → total_read total ≡ refused k i p → delivered_reading P total s ≡ refused k i p
    unfolding delivered_faults first
    total-refused {k} {i} {p} t =
        bool_cases (total_wrong total)
        (λ q.
        let z : ◌≡◌ {A = Checked} (refused Item 1 0) (refused k i p) = rw q at t in
        let g : refusal Item 1 0 ≡ refusal k i p = cc in
        under-list ∙ rw (delivered_faults, q) (ap Err g))
        (λ q. let z : ◌≡◌ {A = Checked} right (refused k i p) = rw q at t in let y : ◌≡◌ {A = ℕ} 0 1 = cc in absurd (omega arith))

    module _ (t : total_read total ≡ right) where
      in-turn : delivered_reading P total s ≡ answer 1 (total_in plain s) (or_else (first (frame_faults plain 32 s)) (or_else (first rows) (first clashes)))
      unfolding delivered_faults first
      in-turn =
          let q = total-right total t in
          under-list ∙ ap (answer 1 (total_in plain s))
          (rw (delivered_faults, q) (first-append (frame_faults plain 32 s) (rows ++ clashes) ∙ ap (or_else (first (frame_faults plain 32 s))) (first-append rows clashes)))

      pub frames-refused : {k : Cause} {i p : ℕ} → answer 1 (total_in plain s) (first (frame_faults plain 32 s)) ≡ refused k i p
          → delivered_reading P total s ≡ refused k i p
      frames-refused b =
          let r = refused-finding 1 (total_in plain s) (first (frame_faults plain 32 s)) b in
          let i = r.0 in
          let q = r.1 in
          in-turn ∙ rw (q, i)

      module _ {n : ℕ} (b : answer 1 (total_in plain s) (first (frame_faults plain 32 s)) ≡ Ok n) where
        sound : (n ≡ total_in plain s) × (first (frame_faults plain 32 s) ≡ Clean)
        sound = accepted-finding 1 (total_in plain s) (first (frame_faults plain 32 s)) b

        pub entries-refused : {k : Cause} {i p : ℕ} → checked (first rows) ≡ refused k i p → delivered_reading P total s ≡ refused k i p
        entries-refused f =
            let r = refused-finding 1 tt (first rows) f in
            let i = r.0 in
            in-turn ∙ rw (sound.1, r.1, i)

        module _ (f : checked (first rows) ≡ right) where
          pub clash-refused : {k : Cause} {i p : ℕ} → checked (first clashes) ≡ refused k i p → delivered_reading P total s ≡ refused k i p
          clash-refused g =
              let r = refused-finding 1 tt (first clashes) g in
              let i = r.0 in
              in-turn ∙ rw (sound.1, (accepted-finding 1 tt (first rows) f).1, r.1, i)

          pub none-refused : checked (first clashes) ≡ right → delivered_reading P total s ≡ Ok n
          none-refused g =
              in-turn ∙ rw (sound.1, (accepted-finding 1 tt (first rows) f).1, (accepted-finding 1 tt (first clashes) g).1) (ap Ok (sym sound.0))

-- ---- a record that is accepted

pub record Taken (P : List ℕ) (total : ℕ) (s : List ℕ) (n : ℕ) : Type 0 where
  pub pairs : ℕ
  pub list : pairs_reading P ≡ Ok pairs
  pub some : 1 ≤ total
  pub most : total ≤ 256
  pub count : n ≡ length (entries_of s)
  pub legal : LegalRecord total (entries_of s)
  pub one : OneEach (entries_of s)
  pub apart : Apart P (entries_of s)

pub taken : (P : List ℕ) (total : ℕ) (s : List ℕ) {n : ℕ} → delivered_reading P total s ≡ Ok n → Taken P total s n
unfolding delivered_faults NoneApplies
taken P total s {n} e =
    reading-cases (pairs_reading P)
    (λ k i p f. refused-accepted (list-refused P total s f) e)
    (λ m f.
    let g = accepted-finding 1 (total_in plain s) (first (delivered_faults P total s)) (sym (under-list P total s f) ∙ e) in
    let h : NoneApplies (delivered_faults P total s) = clean-none (delivered_faults P total s) g.1 in
    let parts = none-split (frame_faults plain 32 s) (rows P total s ++ clashes P total s) h.1 in
    let rest = none-split (rows P total s) (clashes P total s) parts.1 in
    let b = total-bounds total h.0 in
    record {
      pairs = m;
      list = f;
      some = b.0;
      most = b.1;
      count = g.0 ∙ sym (length-entries s);
      legal = legal-of total (entries_of s) rest.0;
      one = one-each-of total (entries_of s) rest.0;
      apart = apart-of P (entries_of s) rest.1;
    })
