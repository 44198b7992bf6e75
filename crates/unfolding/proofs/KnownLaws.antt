-- What is kept of descriptions: nothing at first, with one description more, and what they say of a description that is read.
-- Assumes nothing.
use Prim.Native.Nat.{◌+◌, ◌<◌, ◌≤◌, ℕ}
use lib.Dec.{eqb}
use lib.ListN.{get_or, length, length-append, replicate, set}
use lib.Seq.{get_or-set_other, get_or-set_same}
use mathlib.Core.Bool.{true}
use mathlib.Core.List.{List, [], ◌++◌, ◌∷◌}
use mathlib.Core.Path.{◌∙◌, ◌≡◌, ap, subst, sym}
use native.Mathlib.Omega.{arith}
use Rattle.base.proofs.Tests.{bool_cases, eq-cases, eqb-self, ne_eqb}
use Rattle.blocks.proofs.Refusing.SingleFirst.{named-first}
use Rattle.blocks.proofs.RoundTrip.Accepting.{none-of-accepted, sound-of-accepted}
use Rattle.blocks.proofs.RoundTrip.Faithful.{entries-limit, entries-whole}
use Rattle.blocks.specs.Entries.{entries_of, name_given}
use Rattle.blocks.specs.Faults.{entry_faults, first}
use Rattle.blocks.specs.Reading.{answer, reading_of}
use Rattle.blocks.specs.code.Blockwise.{Whole}
use Rattle.blocks.specs.declared.Entry.{Entry}
use Rattle.blocks.specs.declared.Refusal.{Refusal}
use Rattle.std.specs.Prelude.{Result, Ok, Err}
use Rattle.blocks.specs.Refusals.{refused}
use Rattle.blocks.specs.declared.Schema.TheVariants.{Named}
use Rattle.names.proofs.Dictionary.InTurn.{each_more, in-turn-more}
use Rattle.names.proofs.Entries.EachEntry.{each-of-numbers}
use Rattle.names.proofs.Legality.NamedReadings.{accepted-legal, beyond-large, named-large, named-taken, within-not-large}
use Rattle.names.proofs.Measured.ByEarlier.{levels-given, size-given}
use Rattle.names.specs.Measures.{levels_by, levels_named, levels_nth, size_by, size_named, size_nth}
use Rattle.names.specs.NamedReading.{named_reading}
use Rattle.names.specs.Promise.{LegalNamed, Within}
use Rattle.names.specs.Unfold.{in_turn, noted}
use Rattle.unfolding.proofs.Alike.{alike-read}
use Rattle.unfolding.specs.code.Checking.{CheckedAll}
use Rattle.unfolding.specs.code.Known.{Known, MeasuredBy, blank, levels_in, size_in}
use Rattle.unfolding.specs.declared.tables.Described.{Described}
use Rattle.unfolding.specs.declared.tables.Tables.{Tables}
use Rattle.unfolding.specs.declared.Extent.{Extent}
use Rattle.blocks.specs.declared.Cause.TheVariants.{Size}

-- ---- the tables

-- blank ones, for no description
pub known_start : (t : Tables) → t.of ≡ replicate 65 blank → t.count ≡ 0 → Known [] t
unfolding size_nth levels_nth in_turn
known_start t s c = record {
  sized = record {
    few = omega arith;
    each = tt;
    within = λ n. record { few = omega arith; shallow = omega arith };
    sizes = λ n h. rw s (ap (λ (d : Described). d.size) (alike-read blank 65 n));
  };
  deep = λ n h. rw s (ap (λ (d : Described). d.levels) (alike-read blank 65 n));
  many = c;
}

-- one description more in a table, and a number that is kept of each
table_more : (of : List Described) (f : ℕ → ℕ) (g : Described → ℕ) (k : ℕ) (d : Described) → ((n : ℕ) → n ≤ 64 → g (get_or of n blank) ≡ f n) → k < length of
    → (n : ℕ) → n ≤ 64 → g (get_or (set of k d) n blank) ≡ noted f k (g d) n
table_more of f g k d h b n l =
    eq-cases n k
    (λ q. rw (q, eqb-self k) (ap g (get_or-set_same of k d blank b)))
    (λ q. rw (ne_eqb q) (ap g (get_or-set_other of k n d blank q) ∙ h n l))

module _ (K : List (List Entry)) (es : List Entry) where
  -- one description more: its size and its levels
  size-more : size_nth (K ++ (es ∷ [])) ≡ noted (size_nth K) (length K + 1) (size_named K es)
  unfolding size_nth size_named
  size-more = let z : 1 + length K ≡ length K + 1 = omega arith in in-turn-more size_by (λ n. 0) 1 K es ∙ rw z

  levels-more : levels_nth (K ++ (es ∷ [])) ≡ noted (levels_nth K) (length K + 1) (levels_named K es)
  unfolding levels_nth levels_named
  levels-more = let z : 1 + length K ≡ length K + 1 = omega arith in in-turn-more levels_by (λ n. 0) 1 K es ∙ rw z

  within_more : ((n : ℕ) → Within (size_nth K n) (levels_nth K n)) → Within (size_named K es) (levels_named K es)
      → (n : ℕ) → Within (noted (size_nth K) (length K + 1) (size_named K es) n) (noted (levels_nth K) (length K + 1) (levels_named K es) n)
  within_more h W n = bool_cases (eqb n (length K + 1)) (λ q. rw q W) (λ q. rw q (h n))

  -- and the tables with them
  pub known_more : {t t' : Tables} → Known K t → LegalNamed (length K) es → Within (size_named K es) (levels_named K es)
      → length K < 64 → length t.of ≡ 65 → (d : Described) → d.size ≡ size_named K es → d.levels ≡ levels_named K es
      → t'.count ≡ length K + 1 → t'.of ≡ set t.of (length K + 1) d → Known (K ++ (es ∷ [])) t'
  known_more {t} {t'} k N W b l d z v c q = record {
    sized = record {
      few = omega (arith, length-append K (es ∷ []));
      each = each_more LegalNamed 0 K es k.sized.each (let z : 0 + length K ≡ length K = omega arith in rw z N);
      within = rw (size-more, levels-more) (within_more k.sized.within W);
      sizes = rw (size-more, q, ← z) (table_more t.of (size_nth K) (λ (d : Described). d.size) (length K + 1) d k.sized.sizes (omega arith));
    };
    deep = rw (levels-more, q, ← v) (table_more t.of (levels_nth K) (λ (d : Described). d.levels) (length K + 1) d k.deep (omega arith));
    many = omega (arith, length-append K (es ∷ []));
  }

-- ---- a description that is read

-- by what going over its entries answers, where its blocks are sound
module _ (most i : ℕ) (s : List ℕ) (total : ℕ) (e : reading_of (Named most) i s ≡ answer i total (first (entry_faults (Named most) (entries_of s) 1 total)))
    (S L : ℕ → ℕ) {c : Result Extent Refusal} (C : CheckedAll most S L (entries_of s) total i c) where
  pub checked_refused : {x : Refusal} → c ≡ Err x → reading_of (Named most) i s ≡ Err x
  checked_refused {x} q =
      let f = subst (CheckedAll most S L (entries_of s) total i) q C in
      let whose : refused x.cause i x.place ≡ Err x = ap (λ (j : ℕ). refused x.cause j x.place) (sym f.1) in
      e ∙ rw (sym (named-first most (entries_of s) total) ∙ f.0) whose

  pub checked-sound : {x : Extent} → c ≡ Ok x
      → (reading_of (Named most) i s ≡ Ok total) × ((x.size ≡ size_by S (entries_of s)) × (x.levels ≡ levels_by L (entries_of s)))
  checked-sound {x} q =
      let f = subst (CheckedAll most S L (entries_of s) total i) q C in
      (e ∙ rw (sym (named-first most (entries_of s) total) ∙ f.0), (f.1, f.2))

module _ {K : List (List Entry)} {t : Tables} (k : Known K t) (es : List Entry) (N : LegalNamed (length K) es) where
  -- what is worked out by the tables is its size, and its levels
  tabled-size : size_by (size_in t.of) es ≡ size_named K es
  unfolding size_named
  tabled-size =
      size-given (size_in t.of) (size_nth K) (length K) (λ n h. k.sized.sizes n (omega (arith, k.sized.few))) es
      (each-of-numbers (λ e. name_given (length K) e ≡ true) es N.name)

  tabled-levels : levels_by (levels_in t.of) es ≡ levels_named K es
  unfolding levels_named
  tabled-levels =
      levels-given (levels_in t.of) (levels_nth K) (length K) (λ n h. k.deep n (omega (arith, k.sized.few))) (λ j. 0) 1 es
      (each-of-numbers (λ e. name_given (length K) e ≡ true) es N.name)

module _ (most i : ℕ) (s : List ℕ) {total : ℕ} (e : reading_of (Named most) i s ≡ Ok total) where
  -- its entries can be gone over
  pub read_whole : (total ≡ length (entries_of s)) × Whole s total × (total ≤ 1008)
  read_whole =
      let sound = sound-of-accepted (Named most) i s e in
      let count = (none-of-accepted (Named most) i s e).1 in
      (count, rw count (entries-whole sound.blocks), omega (arith, entries-limit sound.blocks))

  pub read-legal : LegalNamed most (entries_of s)
  read-legal = accepted-legal most i s e

module _ {K : List (List Entry)} {t : Tables} (k : Known K t) (i : ℕ) (s : List ℕ) {total : ℕ}
    (e : reading_of (Named (length K)) i s ≡ Ok total) where
  abbrev legal : LegalNamed (length K) (entries_of s)
  legal = read-legal (length K) i s e

  -- where the numbers that are worked out are too large, it is refused
  beyond : (Within (size_named K (entries_of s)) (levels_named K (entries_of s)) → ⊥) → named_reading K i s ≡ refused Size i 0
  beyond h = named-large K i s e (beyond-large K k.sized.each (length K) (entries_of s) legal h)

  pub read-too-many : {z : ℕ} → z ≡ size_by (size_in t.of) (entries_of s) → 1008 < z → named_reading K i s ≡ refused Size i 0
  read-too-many ze h = beyond (λ W. let t = tabled-size k (entries_of s) legal in omega (arith, W.few))

  pub read-too-deep : {l : ℕ} → l ≡ levels_by (levels_in t.of) (entries_of s) → 33 < l → named_reading K i s ≡ refused Size i 0
  read-too-deep le h = beyond (λ W. let t = tabled-levels k (entries_of s) legal in omega (arith, W.shallow))

  -- else it is taken
  pub read_taken : {z l : ℕ} → z ≡ size_by (size_in t.of) (entries_of s) → l ≡ levels_by (levels_in t.of) (entries_of s) → z ≤ 1008 → l ≤ 33
      → MeasuredBy K i s (Ok (record { total = total; size = z; levels = l }))
  read_taken {z} {l} ze le zb lb =
      let zs : z ≡ size_named K (entries_of s) = ze ∙ tabled-size k (entries_of s) legal in
      let ls : l ≡ levels_named K (entries_of s) = le ∙ tabled-levels k (entries_of s) legal in
      let W : Within (size_named K (entries_of s)) (levels_named K (entries_of s)) = record { few = omega arith; shallow = omega arith } in
      let whole = read_whole (length K) i s e in (
        named-taken K i s e (within-not-large K k.sized.each (length K) (entries_of s) legal W),
        whole.0,
        whole.2,
        zs,
        ls,
        legal,
        (sound-of-accepted (Named (length K)) i s e).blocks,
      )
