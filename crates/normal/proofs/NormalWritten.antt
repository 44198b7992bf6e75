-- The packed entries of a normal form, written to the output, give the output that the answer promises.
-- Assumes nothing.
use Prim.Native.Nat.{◌+◌, ◌<◌, ◌≤◌, ℕ}
use lib.ListN.{length, length-append, length-map, take}
use lib.Seq.{length-take-le, take_all}
use mathlib.Core.List.{List, [], ◌++◌, ◌∷◌, map}
use mathlib.Core.Path.{◌∙◌, ◌≡◌, ap, refl, sym}
use native.Mathlib.Omega.{arith}
use Rattle.base.proofs.Tests.{le-leb, leb-self}
use Rattle.blocks.proofs.Refusing.Bounds.{AllBounded}
use Rattle.blocks.proofs.RoundTrip.Accepting.{none-of-accepted, sound-of-accepted, written-encodes}
use Rattle.blocks.proofs.RoundTrip.Faithful.{entries-limit}
use Rattle.blocks.specs.Encoding.{bytes_written, written}
use Rattle.blocks.specs.Entries.{entries_of, packed}
use Rattle.blocks.specs.declared.Entry.{Entry}
use Rattle.blocks.specs.declared.Schema.TheVariants.{Description}
use Rattle.logic.specs.Background.{Background, LawfulBackground}
use Rattle.logic.specs.Layout.{write}
use Rattle.logic.specs.Normal.{nf}
use Rattle.logic.specs.Place.{Atom}
use Rattle.logic.specs.Tree.{Row}
use Rattle.meaning.proofs.NormalForms.NormalEntriesLaws.{normal-fewer}
use Rattle.meaning.proofs.NormalForms.NormalLegal.{normal-bounded}
use Rattle.meaning.specs.Description.{place_of}
use Rattle.meaning.specs.NormalEntries.{normal_entries}
use Rattle.meaning.specs.RowEntries.{row_entry}
use Rattle.normal.proofs.AnswerLaws.{Ready, form-read, list-output, list_read, normalised, refused-unchanged, too_short}
use Rattle.normal.proofs.PromiseKept.{form-room}
use Rattle.normal.proofs.emit.PushLaws.{pushed-total}
use Rattle.normal.proofs.tables.PassRows.{front_length, front-settled, rows_few, rows-normal}
use Rattle.normal.specs.Answer.{normalise_of, normalise_under, normalised_of, normalised_under, output_after}
use Rattle.normal.specs.code.Formed.{FormHeld, FormRows, form_reading}
use Rattle.blocks.specs.Reading.{Reading}
use Rattle.blocks.specs.Refusals.{refused}
use Rattle.blocks.specs.declared.Cause.TheVariants.{Room}
use Rattle.pairs.proofs.Under.{ruled-under}
use Rattle.pairs.specs.Pairs.{under}
use Rattle.pairs.specs.Promise.{ListRead}
use Rattle.std.proofs.lemmas.List.{take-append-le}
use Rattle.normal.specs.code.Emitted.{Lent, Pushed, Roomy, row_number, table_rows}
use Rattle.std.specs.Prelude.{Err, Ok}
use Rattle.slots.proofs.PassLaws.{all-bounded}
use Rattle.slots.specs.code.Standing.{Standing}
use Rattle.slots.specs.code.TablePlaces.{used_in}

rows-packed : (rs : List (Row Atom ℕ)) → map row_number rs ≡ map packed (map row_entry rs)
rows-packed [] = refl
rows-packed (r ∷ rs) = rw (rows-packed rs)

-- only the entries that are asked for are written
pub written-front : (out rows : List ℕ) (n : ℕ) → n ≤ length rows → written out rows n ≡ written out (take n rows) n
unfolding written bytes_written
written-front out rows n h =
    let size : length (take n rows) ≡ n = length-take-le n rows h in
    let front : take n (take n rows) ≡ take n rows = take_all n (take n rows) (omega arith) in
    rw (written, written, bytes_written, bytes_written, front, size, le-leb h, leb-self n)

module _ {b : Background} (law : LawfulBackground b) (d out : List ℕ) (r : Ready d out) (small : AllBounded (entries_of d)) where
  abbrev form : List Entry
  form = normal_entries b (entries_of d)

  -- a table whose first n numbers are the packed entries of the normal form: as many are written as were answered, and they are its blocks
  pub normal-written : (rows : List ℕ) (n : ℕ) → n ≤ length rows → take n rows ≡ map packed form
      → (normalise_under b d out ≡ Ok n) × (written out rows n ≡ normalised_under b d out)
  unfolding normalised_under
  normal-written rows n h packs =
      let size : n ≡ length form = sym (length-take-le n rows h) ∙ ap length packs ∙ length-map form packed in
      let input = sound-of-accepted Description 1 d r.read in
      let bound = normal-bounded b (entries_of d) input.entries small (omega (arith, entries-limit input.blocks)) in
      let few : length form ≤ 2016 = omega (arith, normal-fewer b (entries_of d), entries-limit input.blocks) in (
        normalised b d out r ∙ ap Ok (sym size),
        written-front out rows n h ∙ ap (λ (q : List ℕ). written out q n) packs ∙ ap (written out (map packed form)) size
            ∙ written-encodes out form bound few (form-room law d out r) ∙ sym (ap (output_after b d out) (normalised b d out r)),
      )

-- rows that stand in a table are written as answered
pub form-written : {P d rows : List ℕ} {k : ℕ} (out : List ℕ) → FormRows P d k rows → length d ≤ length out
    → (normalise_of P d out ≡ Ok k) × (written out rows k ≡ normalised_of P d out)
form-written {P} {d} {rows} {k} out F l =
    let r : Ready d out = record { total = F.total; read = F.read; room = l } in
    let law = (ruled-under P F.list.list_read).lawful in
    let w = normal-written law d out r (all-bounded d F.bounded) rows k F.room F.held in
    (list_read P d out F.list.list_read ∙ w.0, w.1 ∙ sym (list-output P d out F.list.list_read))

-- into an output that is shorter, nothing
pub form-short : {P d rows : List ℕ} {k : ℕ} (out : List ℕ) → FormRows P d k rows → length out < length d
    → (normalise_of P d out ≡ refused Room 0 0) × (normalised_of P d out ≡ out)
form-short {P} {d} out F l =
    let e = list_read P d out F.list.list_read ∙ too_short (under P) d out F.read l in
    (e, refused-unchanged P d out e)

-- they are as many as were answered
pub form_counted : {P d rows : List ℕ} {k : ℕ} → FormRows P d k rows → form_reading P d ≡ Ok k
form_counted {P} {d} {rows} {k} F =
    form-read P d F.list.list_read F.read
    ∙ ap Ok (sym (length-map (normal_entries (under P) (entries_of d)) packed) ∙ ap length (sym F.held) ∙ length-take-le k rows F.room)

-- and stand in a table that has more
pub form-front : {P d rows : List ℕ} {k : ℕ} (more : List ℕ) → FormRows P d k rows → FormRows P d k (rows ++ more)
form-front {rows = rows} {k = k} more F =
    record {
      list = F.list;
      total = F.total;
      read = F.read;
      bounded = F.bounded;
      room = omega (arith, F.room, length-append rows more);
      held = take-append-le k rows more F.room ∙ F.held;
    }

pub held-front : (P d : List ℕ) (r : Reading) (rows more : List ℕ) → FormHeld P d r rows → FormHeld P d r (rows ++ more)
held-front P d (Ok k) rows more F = form-front more F
held-front P d (Err e) rows more F = tt

-- ---- an accepted description, whose slots stand in the tables

module _ {b : Background} (law : LawfulBackground b) {d : List ℕ} {used : ℕ} {t bad full : List ℕ} (S : Standing b d used t bad full) where
  entries-few : length (entries_of d) ≤ 1008
  entries-few = omega (arith, entries-limit (sound-of-accepted Description 1 d S.read).blocks)

  -- the table as far as the last slot
  abbrev front : List ℕ
  front = take (used + 1) t

  rows_are : table_rows front bad ≡ write (nf b (place_of (entries_of d) 0))
  rows_are = rows-normal law (front-settled S.slots-settled)

  -- its rows are no more than its entries
  standing-rows : length (table_rows front bad) ≤ length (entries_of d)
  standing-rows = rw rows_are (rows_few law d)

  -- and there is room for them, as for the slots
  module _ {last before order rows below : List ℕ} (R : Roomy d t bad full last before order rows below) where
    pub standing-few : length (table_rows front bad) ≤ length rows
    standing-few = omega (arith, standing-rows, (none-of-accepted Description 1 d S.read).1, R.entries S.total S.read)

    pub standing-full : length front ≤ length full
    standing-full = omega (arith, front_length S.slots-settled.tabled, S.slots-settled.tabled.room, R.slots-room, R.full-room)

    pub standing-lent : Lent (used_in front) last before order rows below
    standing-lent =
        let few : used_in front ≤ length rows = omega (arith, front_length S.slots-settled.tabled, S.slots-settled.tabled.room, R.slots-room) in
        let l = R.lent in
        record {
          cleared = l.cleared;
          lasts = omega (arith, few, l.lasts);
          befores = omega (arith, few, l.befores);
          orders = omega (arith, few, l.orders);
          some-row = l.some-row;
          few-rows = l.few-rows;
          belows = l.belows;
        }

  module _ {w : ℕ} {rows : List ℕ} {r : ℕ} (P : Pushed w [] 0 (table_rows front bad) rows r) where
    pub rows-most : r ≤ 1008
    rows-most = omega (arith, pushed-total (table_rows front bad) P, standing-rows, entries-few)

    pub rows-held : {last before order rows₀ below : List ℕ} → Roomy d t bad full last before order rows₀ below → r ≤ length rows₀
    rows-held R = omega (arith, pushed-total (table_rows front bad) P, standing-few R)

    -- they are those of the normal form
    pub rows-stand : {P : List ℕ} → b ≡ under P → ListRead P → r ≤ w → length rows ≡ w → FormRows P d r rows
    unfolding normal_entries
    rows-stand e l m z =
        record {
          list = l;
          total = S.total;
          read = S.read;
          bounded = S.slots-settled.tabled.bounded;
          room = omega (arith, m, z);
          held = rw (← e) (P.held ∙ ap (map row_number) rows_are ∙ rows-packed (write (nf b (place_of (entries_of d) 0))));
        }
