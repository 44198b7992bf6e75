-- Where an entry fails, its specimen can be shown, and is what the answer promises.
-- Assumes nothing.
use Prim.Native.Nat.{◌*◌, ◌+◌, ◌<◌, ◌≤◌, suc, zero, ℕ}
use lib.ListN.{drop, get_or, length}
use mathlib.Core.List.{List, ◌++◌}
use mathlib.Core.Logic.{◌≢◌}
use mathlib.Core.Path.{◌∙◌, ◌≡◌, ap, sym}
use native.Mathlib.Omega.{arith}
use Rattle.blocks.proofs.Refusing.Bounds.{AllBounded}
use Rattle.blocks.proofs.RoundTrip.Accepting.{Sound, sound-of-accepted}
use Rattle.blocks.specs.Encoding.{blocks_for, encode}
use Rattle.blocks.specs.Entries.{Bounded, entries_of, nth}
use Rattle.blocks.specs.Frame.{plain}
use Rattle.blocks.specs.declared.Entry.{Entry}
use Rattle.blocks.specs.declared.Schema.TheVariants.{Description}
use Rattle.compare.proofs.AnswerLaws.{compared, verdict-not}
use Rattle.compare.proofs.PromiseKept.{shown-room}
use Rattle.compare.proofs.verdict.RoomLaws.{accepted-counted, both-few, both-short}
use Rattle.compare.proofs.verdict.VerdictLaws.{read-comparable}
use Rattle.compare.specs.Answer.{compare_under, output_after, output_under, not_contained}
use Rattle.compare.specs.code.Codes.{up_from}
use Rattle.compare.specs.code.Prepared.{Failed, Showable, shown_after, shown_by}
use Rattle.logic.proofs.NormalForm.NormalFields.{Fields, nf-fields}
use Rattle.logic.proofs.SpecimenTrees.WitnessFields.{AllNames, TargetFields, witness-fields}
use Rattle.logic.specs.Background.{Background, Ruled}
use Rattle.logic.specs.SpecimenTree.{SpecimenTree}
use Rattle.logic.specs.Witness.{on, witness}
use Rattle.meaning.proofs.Descriptions.EntryFields.{EntryFields, Word, atom-fields, place-fields}
use Rattle.meaning.proofs.Specimens.SpecimenLegal.{specimen-bounded, specimen-length}
use Rattle.meaning.proofs.Verdicts.FirstLaws.{failing-least}
use Rattle.meaning.proofs.Verdicts.NotContained.{not-contained-shown}
use Rattle.meaning.specs.Description.{atom_of, links_to, place_of}
use Rattle.meaning.specs.Failing.{failing, normal_of, specimen_of}
use Rattle.meaning.specs.Promise.{Shown}
use Rattle.meaning.specs.SpecimenFor.{specimen_entries, specimen_for}

-- ---- fields

-- the name and the number of an entry whose fields fit their bytes
bounded-fields : {e : Entry} → Bounded e → EntryFields Word Word e
bounded-fields b = record { name = λ z. b.name; number = b.number }

-- the links of a path of words
up-names : (links : List ℕ) (m : ℕ) → ((i : ℕ) → get_or links i 0 < 65536) → AllNames Word (up_from links m)
unfolding up_from
up-names links zero h = tt
up-names links (suc m) h = (h m, up-names links m h)

-- by number, counted from 1
each-bounded : {es : List Entry} → AllBounded es → (k : ℕ) → 1 ≤ k → k ≤ length es → Bounded (nth es k)
unfolding nth
each-bounded b zero lo hi = absurd (omega arith)
each-bounded b (suc k) lo hi = b.each k (omega arith)

-- ---- an entry that fails

module _ {b : Background} (R : Ruled b) {c d : List ℕ} {n : ℕ} {t : List ℕ} (f : Failed b c d n t) where
  abbrev cs : List Entry
  cs = entries_of c

  abbrev ds : List Entry
  ds = entries_of d

  supplier : Sound Description c
  supplier = sound-of-accepted Description 1 c f.read.first_read

  service : Sound Description d
  service = sound-of-accepted Description 2 d f.read.second-read

  fails-some : failing b cs ds ≢ 0
  fails-some z = f.some' (sym f.fails ∙ z)

  -- the specimen is the comparison's
  shown-is : shown_by t d n ≡ specimen_of b cs ds
  unfolding shown_by specimen_of
  shown-is = rw (f.top, f.fails)

  shown : Shown cs ds (shown_by t d n)
  shown = rw shown-is (not-contained-shown R.lawful cs ds supplier.entries service.entries fails-some)

  -- the entry is one of the second description's
  pub failed-within : (1 ≤ n) × (n ≤ length (entries_of d))
  unfolding failing
  failed-within =
      let l = failing-least b (normal_of b cs) ds f.fails f.some' in
      (omega (arith, f.some'), omega (arith, l.high))

  pub failed-small : n ≤ 1008
  failed-small = let a = accepted-counted 2 d f.read.second-read in omega (arith, failed-within.1, a.total, a.few, a.short)

  -- the names and numbers of the normal form are words
  top-fields : Fields Word Word (normal_of b cs)
  unfolding normal_of
  top-fields =
      nf-fields Word Word (omega arith) b (place_of cs 0) (place-fields Word Word cs (λ k lo hi. bounded-fields (f.bounded k lo hi)) 0)

  -- the fields of the specimen's entries fit their bytes, where those of the path and of the entry do
  shown-bounded : (links : List ℕ) (m : ℕ) → links_to ds n ≡ up_from links m → ((i : ℕ) → get_or links i 0 < 65536) → Bounded (nth ds n) → AllBounded (shown_by t d n)
  unfolding shown_by specimen_for
  shown-bounded links m path names last =
      let s : SpecimenTree = witness (normal_of b cs) (on (links_to ds n) (atom_of (nth ds n))) in
      let same : shown_by t d n ≡ specimen_entries s = rw f.top in
      let target : TargetFields Word Word (on (links_to ds n) (atom_of (nth ds n))) =
      (rw path (up-names links m names), atom-fields Word Word (nth ds n) (bounded-fields last)) in
      rw f.top
      (specimen-bounded s (rw f.top at shown.legal) (omega (arith, specimen-length s, ap length same, shown.size, both-few f.read, both-short f.read))
      (witness-fields Word Word (omega arith) (λ j h. omega arith) (normal_of b cs) (on (links_to ds n) (atom_of (nth ds n))) top-fields target))

  module _ (out : List ℕ) (room : length c + length d ≤ length out) where
    -- the answer
    answer : compare_under b c d out ≡ not_contained n (length (shown_by t d n))
    answer = compared b c d out (read-comparable c d out f.read room) ∙ verdict-not b cs ds fails-some ∙ rw (f.fails, shown-is)

    fits-output : 512 * blocks_for plain (length (shown_by t d n)) ≤ length out
    fits-output = rw shown-is (shown-room R c d out (read-comparable c d out f.read room) fails-some)

    -- it can be shown in a table that has room for the entries of both
    pub failed-showable : (size : ℕ) → length cs + length ds ≤ size → size ≤ 2016 → Showable t d n size out
    failed-showable size both most = record {
      stood = f.stood;
      legal = service.entries;
      from = failed-within.0;
      to = failed-within.1;
      bounded = λ links m path names last. each-bounded (shown-bounded links m path names last);
      rows = omega (arith, shown.size);
      most = most;
      room = fits-output;
    }

    -- any two, and two of so many blocks each
    pub failed-many : Showable t d n 2016 out
    failed-many = failed-showable 2016 (omega (arith, both-few f.read, both-short f.read)) (omega arith)

    pub failed-few : (blocks : ℕ) → blocks ≤ 16 → length c ≤ 512 * blocks → length d ≤ 512 * blocks → Showable t d n (126 * blocks) out × (length t ≤ 63 * blocks + 1)
    failed-few blocks few lc ld =
        let a = accepted-counted 1 c f.read.first_read in
        (failed-showable (126 * blocks) (omega (arith, lc, ld, both-few f.read)) (omega (arith, few)), omega (arith, lc, f.few, a.total, a.few))

    -- and is what the answer promises
    pub failed-shown : {r : ℕ} {out' : List ℕ} → r ≡ length (shown_by t d n) → out' ≡ shown_after t d n out
        → (not_contained n r ≡ compare_under b c d out) × (out' ≡ output_under b c d out)
    unfolding shown_after output_under
    failed-shown e o = (
      ap (not_contained n) e ∙ sym answer,
      o ∙ ap (λ (es : List Entry). encode es ++ drop (512 * blocks_for plain (length (shown_by t d n))) out) shown-is ∙ sym (ap (output_after b c d out) answer),
    )
