-- The descriptions of a dictionary, read in turn: how far reading has come, one description more, and the end.
-- Assumes nothing.
use Prim.Native.Nat.{◌+◌, ◌<◌, ◌≤◌, suc, ℕ}
use lib.ListN.{drop, get_or, length, length-drop, length-map, length-replicate, length-set, replicate, set, take}
use lib.Seq.{drop-cons, get_or-set_other, get_or-set_same, length-take-le, take_all, take-suc}
use mathlib.Core.List.{List, [], ◌++◌, ◌∷◌, map, map-append}
use mathlib.Core.Path.{◌∙◌, ◌≡◌, ap, refl, subst, sym}
use native.Mathlib.Omega.{arith}
use Rattle.base.proofs.Tests.{eq-cases}
use Rattle.blocks.proofs.RoundTrip.Unbroken.{Unbroken}
use Rattle.blocks.specs.Entries.{entries_of}
use Rattle.blocks.specs.Frame.{plain}
use Rattle.blocks.specs.declared.Entry.{Entry}
use Rattle.std.specs.Prelude.{Result, Ok, Err}
use Rattle.blocks.specs.declared.Refusal.{Refusal}
use Rattle.blocks.specs.declared.Schema.TheVariants.{Named}
use Rattle.lists.proofs.PartLaws.{part-long, start-next, start-within}
use Rattle.lists.specs.Parts.{parts_of, start_of}
use Rattle.names.proofs.Legality.NamedReadings.{taken-within}
use Rattle.names.specs.NamedReading.{dictionary_of, named_reading, parts_reading}
use Rattle.unfolding.proofs.KnownLaws.{known_more, known_start}
use Rattle.unfolding.specs.code.Known.{Known, MeasuredBy, Ready, blank, start_in}
use Rattle.unfolding.specs.declared.Measured.{Measured}
use Rattle.unfolding.specs.declared.tables.Described.{Described}
use Rattle.unfolding.specs.declared.tables.Tables.{Tables}

-- the first n descriptions
abbrev pub earlier : List ℕ → ℕ → List (List Entry)
earlier D n = map entries_of (take n (parts_of D))

length-earlier : (D : List ℕ) (n : ℕ) → n ≤ length (parts_of D) → length (earlier D n) ≡ n
length-earlier D n h = length-map (take n (parts_of D)) entries_of ∙ length-take-le n (parts_of D) h

-- and one more
earlier_more : (D : List ℕ) (n : ℕ) → n < length (parts_of D) → earlier D (suc n) ≡ earlier D n ++ (entries_of (get_or (parts_of D) n []) ∷ [])
earlier_more D n h = ap (map entries_of) (take-suc (parts_of D) n [] h) ∙ map-append entries_of (take n (parts_of D)) (get_or (parts_of D) n [] ∷ [])

-- what is measured, by what came of it
measured-as : (K : List (List Entry)) (i : ℕ) (s : List ℕ) {r r' : Result Measured Refusal} → r ≡ r' → MeasuredBy K i s r → MeasuredBy K i s r'
measured-as K i s q M = subst (MeasuredBy K i s) q M

-- some descriptions are read and taken: the tables have where they begin, their sizes and levels, and the answer is what the others, which are
-- left, give
pub record Passed (D : List ℕ) (t : Tables) (at : ℕ) (rest : List (List ℕ)) : Type 0 where
  pub few : t.count ≤ length (parts_of D)
  pub left : drop t.count (parts_of D) ≡ rest
  pub start : at ≡ start_of t.count D
  pub long : length t.of ≡ 65
  pub starts : (k : ℕ) → k < t.count → start_in t.of (k + 1) ≡ start_of k D
  pub known : Known (earlier D t.count) t
  pub same : parts_reading [] (parts_of D) ≡ parts_reading (earlier D t.count) rest
  pub sound : (k : ℕ) → k < t.count → Unbroken plain (Named k) (get_or (parts_of D) k [])

-- before the first
pub passed_start : (D : List ℕ) (t : Tables) {rest : List (List ℕ)} → t.of ≡ replicate 65 blank → t.count ≡ 0 → rest ≡ parts_of D → Passed D t 0 rest
unfolding start_of
passed_start D t s c r = record {
  few = omega arith;
  left = rw (c, r);
  start = rw c;
  long = ap length s ∙ length-replicate {A = Described} 65 blank;
  starts = λ k h. absurd (omega arith);
  known = let K : earlier D t.count ≡ [] = rw c in rw K (known_start t s c);
  same = rw (c, r);
  sound = λ k h. absurd (omega arith);
}

module _ {D : List ℕ} {t : Tables} {at : ℕ} {rest : List (List ℕ)} (P : Passed D t at rest) where
  abbrev n : ℕ
  n = t.count

  -- how many there are
  pub passed-many : length (earlier D n) ≡ n
  passed-many = length-earlier D n P.few

  -- ---- one more

  module _ {part : List ℕ} {more : List (List ℕ)} (next : rest ≡ part ∷ more) where
    passed-some : n < length (parts_of D)
    passed-some = omega (arith, ap length P.left, ap length next, length-drop n (parts_of D))

    -- it is description n, and those behind it are left
    both : part ∷ more ≡ get_or (parts_of D) n [] ∷ drop (suc n) (parts_of D)
    both = sym (P.left ∙ next) ∙ drop-cons (parts_of D) n [] passed-some

    part-is : part ≡ get_or (parts_of D) n []
    part-is = ap (λ (l : List (List ℕ)). get_or l 0 []) both

    more-is : drop (suc n) (parts_of D) ≡ more
    more-is = sym (ap (drop 1) both)

    -- the next begins behind it, within the bytes
    next-start : at + length part ≡ start_of (suc n) D
    next-start = omega (arith, P.start, start-next D n, part-long D n, ap length part-is)

    pub passed-behind : at + length part ≤ length D
    passed-behind = omega (arith, next-start, start-within D (suc n))

    earlier-next : earlier D (suc n) ≡ earlier D n ++ (entries_of part ∷ [])
    earlier-next = earlier_more D n passed-some ∙ ap (λ (s : List ℕ). earlier D n ++ (entries_of s ∷ [])) (sym part-is)

    -- where it is taken, the tables have its size and its levels
    known_next : length (parts_of D) ≤ 64 → {m : Measured} → MeasuredBy (earlier D n) (101 + n) part (Ok m)
        → (t' : Tables) → t'.count ≡ n + 1 → t'.of ≡ set t.of (n + 1) (record { start = at; size = m.size; levels = m.levels }) → Known (earlier D (n + 1)) t'
    known_next few {m = m} M t' c q =
        let K = earlier D n in
        let one : n + 1 ≡ suc n = omega arith in
        let W = taken-within K (101 + n) part P.known.sized.each M.5 M.0 in
        let d : Described = record { start = at; size = m.size; levels = m.levels } in
        let more = known_more K (entries_of part) {t' = t'} P.known M.5 W (omega (arith, passed-many, passed-some)) P.long d M.3 M.4 (omega (arith, passed-many)) (rw passed-many q) in
        let list : earlier D (n + 1) ≡ K ++ (entries_of part ∷ []) = ap (earlier D) one ∙ earlier-next in
        rw list more

    -- the answer is what the others give
    same_next : {m : Measured} → MeasuredBy (earlier D n) (101 + n) part (Ok m) → parts_reading [] (parts_of D) ≡ parts_reading (earlier D (suc n)) more
    unfolding parts_reading
    same_next M = P.same ∙ rw (next, parts_reading, passed-many, M.0, earlier-next)

    -- and none of 1 to 3 applies to it
    sound-next : {m : Measured} → MeasuredBy (earlier D n) (101 + n) part (Ok m) → (k : ℕ) → k < n + 1 → Unbroken plain (Named k) (get_or (parts_of D) k [])
    sound-next M k b =
        eq-cases k n
        (λ q. let u : Unbroken plain (Named n) part = rw passed-many at M.6 in rw q (subst (Unbroken plain (Named n)) part-is u))
        (λ q. P.sound k (omega arith))

    -- the table has where it begins
    starts-next : length (parts_of D) ≤ 64 → (d : Described) → d.start ≡ at → (k : ℕ) → k < n + 1 → start_in (set t.of (n + 1) d) (k + 1) ≡ start_of k D
    starts-next few d e k b =
        eq-cases k n
        (λ q. rw q (ap (λ (x : Described). x.start) (get_or-set_same t.of (n + 1) d blank (omega (arith, P.long, passed-some))) ∙ e ∙ P.start))
        (λ q. ap (λ (x : Described). x.start) (get_or-set_other t.of (n + 1) (k + 1) d blank (omega arith)) ∙ P.starts k (omega arith))

    -- refused, it is the answer
    pub passed-refused : {r : Result Measured Refusal} {x : Refusal} → r ≡ Err x → MeasuredBy (earlier D n) (101 + n) part r → parts_reading [] (parts_of D) ≡ Err x
    unfolding parts_reading
    passed-refused {x = x} q M =
        let R : named_reading (earlier D n) (101 + n) part ≡ Err x = measured-as (earlier D n) (101 + n) part q M in
        P.same ∙ rw (next, parts_reading, passed-many, R)

    -- taken, it is one of those that are passed
    pub passed-more : length (parts_of D) ≤ 64 → {r : Result Measured Refusal} {m : Measured} → r ≡ Ok m → MeasuredBy (earlier D n) (101 + n) part r
        → {t' : Tables} → t'.count ≡ n + 1 → t'.of ≡ set t.of (n + 1) (record { start = at; size = m.size; levels = m.levels }) → Passed D t' (at + length part) more
    passed-more few {m = m} q given {t'} c w =
        let M : MeasuredBy (earlier D n) (101 + n) part (Ok m) = measured-as (earlier D n) (101 + n) part q given in
        let one : n + 1 ≡ suc n = omega arith in
        record {
          few = omega (arith, passed-some);
          left = rw (c, one) more-is;
          start = rw (c, one) next-start;
          long = ap length w ∙ length-set t.of (n + 1) _ ∙ P.long;
          starts = rw (w, c) (starts-next few (record { start = at; size = m.size; levels = m.levels }) refl);
          known = let K : earlier D t'.count ≡ earlier D (n + 1) = ap (earlier D) c in rw K (known_next few M t' c w);
          same = rw (c, one) (same_next M);
          sound = rw c (sound-next M);
        }

  -- ---- the end

  module _ (none : rest ≡ []) where
    passed-all : n ≡ length (parts_of D)
    passed-all = omega (arith, P.few, ap length (P.left ∙ none), length-drop n (parts_of D))

    whole : earlier D n ≡ dictionary_of D
    whole = ap (map entries_of) (take_all n (parts_of D) (omega (arith, passed-all)))

    pub passed-accepted : parts_reading [] (parts_of D) ≡ Ok n
    unfolding parts_reading
    passed-accepted = P.same ∙ rw (none, parts_reading, passed-many)

    pub passed-known : Known (dictionary_of D) t
    passed-known = rw (← whole) P.known

    pub passed-ready : Ready D t
    passed-ready = record { known = passed-known; starts = λ k l. P.starts k (omega (arith, passed-all)); sound = λ k l. P.sound k (omega (arith, passed-all)) }
