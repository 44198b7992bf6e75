-- Laws of unfolding: the description that a name stands for, found in the dictionary's bytes, and what it stands for.
-- Assumes nothing.
use Prim.Native.Nat.{◌*◌, ◌+◌, ◌-◌, ◌/◌, ◌<◌, ◌≤◌, suc, zero, ℕ}
use lib.Dec.{eqb, leb, ltb}
use lib.ListN.{drop, get_or, length, length-map, take}
use mathlib.Core.Bool.{◌&&◌, false, true}
use mathlib.Core.List.{List, [], ◌∷◌}
use mathlib.Core.Path.{◌∙◌, ◌≡◌, ap, refl, subst, sym}
use native.Mathlib.Omega.{arith}
use Rattle.base.proofs.Lists.{get_d-map-in}
use Rattle.base.proofs.Parts.{high_is, high_of}
use Rattle.base.proofs.Tests.{and_left, eq-cases, eq-eqb, tests}
use Rattle.blocks.proofs.Format.EntryBytes.{length-entries}
use Rattle.blocks.proofs.Format.Lengths.{few-blocks, some_block}
use Rattle.blocks.proofs.RoundTrip.Faithful.{entries-limit, entries-whole}
use Rattle.blocks.proofs.RoundTrip.Unbroken.{Unbroken}
use Rattle.blocks.specs.Entries.{entries_of, is_named, name_given, nth}
use Rattle.blocks.specs.Frame.{blocks_in, plain, total_in, used_in}
use Rattle.blocks.specs.Words.{word_at}
use Rattle.blocks.specs.code.Blockwise.{Whole}
use Rattle.blocks.specs.declared.Entry.{Entry}
use Rattle.blocks.specs.declared.Schema.TheVariants.{Named}
use Rattle.lists.proofs.PartLaws.{part_at, start-within}
use Rattle.lists.specs.Parts.{first_length, parts_of, start_of}
use Rattle.names.proofs.Dictionary.ByAllValues.{Given, described-given, each-given-more, given-name}
use Rattle.names.proofs.Dictionary.ContentsUnfold.{described-forms, described-owners, given-same}
use Rattle.names.proofs.Entries.EachEntry.{numbers-of-each}
use Rattle.names.proofs.InPasses.PassStages.{stage-last, stage-lower}
use Rattle.names.specs.Measures.{size_nth}
use Rattle.std.specs.List.{list_any}
use Rattle.names.specs.NamedReading.{dictionary_of}
use Rattle.names.specs.Promise.{FormsOk, LegalNamed, OwnersOk}
use Rattle.names.specs.Unfold.{described, in_turn, noted, unfolded}
use Rattle.names.specs.code.Passes.{Stage, inside, kept_by}
use Rattle.unfolding.proofs.RowLaws.{greatest-bounds, greatest-none}
use Rattle.unfolding.specs.code.Known.{Ready, Sized, size_in, start_in}
use Rattle.unfolding.specs.code.Replacing.{NamesFew}
use Rattle.unfolding.specs.code.Rows.{greatest_name}
use Rattle.unfolding.specs.declared.tables.Described.{Described}
use Rattle.unfolding.specs.declared.tables.Tables.{Tables}

-- ---- the n-th description

described-from : (k : ℕ) (raw : ℕ → List Entry) (K : List (List Entry)) (n : ℕ)
    → (n ≤ k → in_turn (λ made d. d) raw (suc k) K n ≡ raw n) × (suc k ≤ n → n ≤ k + length K → in_turn (λ made d. d) raw (suc k) K n ≡ get_or K (n - suc k) [])
unfolding in_turn
described-from k raw [] n = (λ h. refl, λ lo hi. absurd (omega arith))
described-from k raw (d ∷ K) n =
    let ih = described-from (suc k) (noted raw (suc k) d) K n in (
      λ h. let z : eqb n (suc k) ≡ false = omega tests in ih.0 (omega arith) ∙ rw z,
      λ lo hi. eq-cases n (suc k)
          (λ q. let z : n - suc k ≡ 0 = omega arith in ih.0 (omega arith) ∙ rw (z, eq-eqb q))
          (λ q. let z : n - suc k ≡ suc (n - suc (suc k)) = omega arith in ih.1 (omega arith) (omega arith) ∙ rw z),
    )

-- is that at its place in the list
pub described-nth : (K : List (List Entry)) (n : ℕ) → 1 ≤ n → n ≤ length K → described K n ≡ get_or K (n - 1) []
unfolding described
described-nth K n lo hi = (described-from 0 (λ n. []) K n).1 lo (omega arith)

-- ---- its bytes

-- where it begins, by the table
pub ready-start : (D : List ℕ) {t : Tables} → Ready D t → (n : ℕ) → 1 ≤ n → n ≤ length (dictionary_of D) → {at : ℕ}
    → at ≡ start_in t.of n → (at ≡ start_of (n - 1) D) × (at ≤ length D)
ready-start D {t} R n lo hi e =
    let b : n - 1 < length (parts_of D) = omega (arith, length-map (parts_of D) entries_of) in
    let one : n - 1 + 1 ≡ n = omega arith in
    let s = e ∙ ap (start_in t.of) (sym one) ∙ R.starts (n - 1) b in
    (s, omega (arith, s, start-within D (n - 1)))

-- how the code cuts it out
pub cut-is : (D : List ℕ) {t : Tables} → Ready D t → (n : ℕ) → 1 ≤ n → n ≤ length (dictionary_of D) → {at len : ℕ} → at ≡ start_in t.of n
    → len ≡ first_length (high_of at D) → take len (high_of at D) ≡ get_or (parts_of D) (n - 1) []
cut-is D R n lo hi {at} {len} e f =
    let s = (ready-start D R n lo hi e).0 in
    let g : len ≡ first_length (drop at D) = f ∙ ap first_length (high_is at D) in
    rw (high_is at D, g, s) (part_at D (n - 1))

module _ (D : List ℕ) {t : Tables} (R : Ready D t) (n : ℕ) (lo : 1 ≤ n) (hi : n ≤ length (dictionary_of D)) {part : List ℕ}
    (p : part ≡ get_or (parts_of D) (n - 1) []) where
  parts-long : n - 1 < length (parts_of D)
  parts-long = omega (arith, length-map (parts_of D) entries_of)

  -- they are those of the description
  pub cut-described : entries_of part ≡ described (dictionary_of D) n
  cut-described = ap entries_of p ∙ sym (described-nth (dictionary_of D) n lo hi ∙ get_d-map-in entries_of (parts_of D) [] [] (n - 1) parts-long)

  cut-sound : Unbroken plain (Named (n - 1)) part
  cut-sound = subst (λ (s : List ℕ). Unbroken plain (Named (n - 1)) s) (sym p) (R.sound (n - 1) parts-long)

  -- its length is in blocks
  pub cut-blocks : (0 < length part / 512) × (length part / 512 ≤ 16)
  unfolding blocks_in
  cut-blocks =
      let some = some_block (Named (n - 1)) part cut-sound.length in
      let few = few-blocks (Named (n - 1)) part cut-sound.length in
      (omega arith, omega arith)

  -- the used counts give its number of entries
  module _ {w : ℕ} (u : w ≡ word_at part (512 * (length part / 512 - 1) + 2)) where
    cut-total : 63 * (length part / 512 - 1) + w ≡ length (entries_of part)
    unfolding total_in used_in blocks_in
    cut-total = let t : 63 * (length part / 512 - 1) + w ≡ total_in plain part = rw u in t ∙ sym (length-entries part)

    pub cut-loads : (63 * (length part / 512 - 1) + w ≡ length (entries_of part)) × (Whole part (63 * (length part / 512 - 1) + w) × (63 * (length part / 512 - 1) + w ≤ 1008))
    cut-loads =
        let t = cut-total in
        let m : length (entries_of part) ≤ 1008 = entries-limit cut-sound in
        (t, (rw t (entries-whole cut-sound), omega arith))

-- ---- names that are given

-- names up to a number are names up to a larger one
given-upto : (k m : ℕ) → k ≤ m → (es : List Entry) → Given k es → Given m es
given-upto k zero h es g = let z : k ≡ 0 = omega arith in rw z at g
given-upto k (suc m) h es g =
    eq-cases k (suc m)
    (λ q. rw q at g)
    (λ q. each-given-more m es (given-upto k m (omega arith) es g))

-- a name that is given is one of them
given-some : (k : ℕ) (e : Entry) → name_given k e ≡ true → is_named e ≡ true → (1 ≤ e.name) × (e.name ≤ k)
unfolding name_given
given-some k e h q =
    let f : (ltb 0 e.name && leb e.name k) ≡ true = rw q at h in
    let y = and_left (ltb 0 e.name) (leb e.name k) f in
    (omega tests, given-name k e h q)

pub legal-name : {k : ℕ} {es : List Entry} → LegalNamed k es → (i : ℕ) {e : Entry} → i < length es → e ≡ nth es (i + 1) → is_named e ≡ true
    → (1 ≤ e.name) × (e.name ≤ k)
legal-name {k} {es} N i {e} l q n =
    given-some k e (subst (λ (x : Entry). name_given k x ≡ true) (sym q) (N.name (i + 1) (omega arith) (omega arith))) n

given-few : (es : List Entry) → Given 64 es → NamesFew es
given-few es g n lo hi q = given-name 64 (nth es n) (numbers-of-each (λ e. name_given 64 e ≡ true) es g n lo hi) q

module _ {K : List (List Entry)} {of : List Described} (Z : Sized K of) where
  -- ---- what is put in

  module _ (n : ℕ) (hi : n ≤ length K) where
    described-few : Given 64 (described K n)
    described-few = given-upto (n - 1) 64 (omega (arith, Z.few)) (described K n) (described-given K Z.each n)

    -- the description as it stands
    pub raw-ready : {es : List Entry} → es ≡ described K n → FormsOk es × (OwnersOk es × NamesFew es)
    raw-ready q = rw q (described-forms K Z.each n, (described-owners K Z.each n, given-few (described K n) described-few))

    -- without names that stand for nothing: the table serves for names that it has
    pub inside-same : {es : List Entry} → es ≡ described K n → unfolded (kept_by (size_in of)) es ≡ inside K n
    unfolding unfolded kept_by
    inside-same q = rw q (given-same (kept_by (size_in of)) (kept_by (size_nth K)) 64 (λ x h. rw (Z.sizes x h)) (λ j. j) 1 0 (described K n) described-few)

-- where no name is left, all is unfolded
pub stage-over : {K : List (List Entry)} {whole es : List Entry} {r : ℕ} → Stage K whole r es → list_any is_named es ≡ false → es ≡ whole
stage-over {K} {whole} {es} {r} G q =
    stage-last K whole es
    (subst (λ (n : ℕ). Stage K whole n es) (greatest-none es q) (stage-lower K whole r (greatest_name es) es G (greatest-bounds es)))
