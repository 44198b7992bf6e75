-- Laws of an attempt: the entries of both its parts, packed in one table, and what is asked of them.
-- Assumes nothing.
use Prim.Native.Nat.{◌+◌, ◌<◌, ◌≤◌, suc, zero, ℕ}
use lib.Dec.{eqb, leb, ltb}
use lib.ListN.{get_or, get_or-eq_default, get_or-replicate, length, length-map, length-replicate, replicate, set}
use lib.Seq.{get_or-set_other, get_or-set_same}
use mathlib.Core.Bool.{Bool, ◌&&◌, ◌||◌, cond, false, not, true}
use mathlib.Core.List.{List, [], ◌++◌, ◌∷◌, map}
use mathlib.Core.Logic.{◌⊎◌, inl, inr}
use mathlib.Core.Path.{◌∙◌, ◌≡◌, ap, fun_ext, refl, subst, sym}
use native.Mathlib.Omega.{arith}
use Rattle.base.proofs.Lists.{get_d-map-in}
use Rattle.base.proofs.Tests.{bool_cases, eq-cases, eq-eqb, eqb-eq, ge-ltb, lt-cases, lt-ltb, ne_eqb, tests}
use Rattle.blocks.proofs.Refusing.EntryLaws.{of-nth}
use Rattle.blocks.specs.Entries.{Bounded, entries_from, entries_of, entry_of, nth, packed, zero_entry}
use Rattle.blocks.specs.Frame.{blocks_in, total_in, used_in}
use Rattle.blocks.specs.Promise.{Legal}
use Rattle.blocks.specs.Refusals.{refused}
use Rattle.blocks.specs.Words.{word_at}
use Rattle.blocks.specs.declared.Cause.TheVariants.{Room}
use Rattle.blocks.specs.declared.Entry.{Entry}
use Rattle.blocks.specs.declared.Schema.TheVariants.{Description}
use Rattle.earning.proofs.TriedLaws.{thinned-all}
use Rattle.earning.specs.Answer.{marked_bytes}
use Rattle.earning.specs.Leaving.{left_beside, left_of, leaving_of, stays_in, suffices_beside, together}
use Rattle.earning.specs.code.Tried.{Grows, Listed, Open, Packed, enough, set_of}
use Rattle.logic.specs.Background.{Background, LawfulBackground}
use Rattle.meaning.proofs.Verdicts.Contained.{contained-all}
use Rattle.meaning.specs.Failing.{failing}
use Rattle.narrow.proofs.Keeping.Thinned.{legal-thinned, thinner-subsumed}
use Rattle.narrow.proofs.Missing.Additions.{with-exactly}
use Rattle.narrow.proofs.Missing.BothEntries.{legal-joined}
use Rattle.narrow.specs.Earned.{sayers}
use Rattle.narrow.specs.Keeping.{keep_from, marked, thinned}
use Rattle.narrow.specs.Missing.{both, shifted}
use Rattle.std.specs.Prelude.{Ok}

-- ---- entries behind others

-- an entry with another owner
abbrev pub owned : Entry → ℕ → Entry
owned e o = record { kind = e.kind; reserved = e.reserved; owner = o; name = e.name; number = e.number }

-- behind none they stand as they are
pub behind-none : (es : List Entry) → map (shifted 0) es ≡ es
behind-none [] = refl
behind-none (e ∷ es) = ap (λ (x : Entry). x ∷ map (shifted 0) es) (first e) ∙ ap (λ (l : List Entry). e ∷ l) (behind-none es)
  where
    owner-stays : (o : ℕ) → cond (eqb o 0) 0 (0 + o) ≡ o
    owner-stays o = eq-cases o 0 (λ z. rw z refl) (λ z. rw (ne_eqb z) (omega arith))

    first : (e : Entry) → shifted 0 e ≡ e
    first e = ap (owned e) (owner-stays e.owner)

kind-behind : (n : ℕ) (es : List Entry) (i : ℕ) → (get_or (map (shifted n) es) i zero_entry).kind ≡ (get_or es i zero_entry).kind
kind-behind n [] i = refl
kind-behind n (e ∷ es) zero = refl
kind-behind n (e ∷ es) (suc i) = kind-behind n es i

-- the same may be left out
pub sayers-behind : (n : ℕ) (es : List Entry) → sayers (map (shifted n) es) ≡ sayers es
unfolding nth
sayers-behind n es = fun_ext each
  where
    each : (k : ℕ) → sayers (map (shifted n) es) k ≡ sayers es k
    each zero = refl
    each (suc k) = ap (λ (x : ℕ). not (eqb x 5)) (kind-behind n es k)

-- what is left of them stands behind as it would alone
pub thinned-behind : (n : ℕ) (K : ℕ → Bool) (k : ℕ) (es : List Entry) → thinned K k (map (shifted n) es) ≡ map (shifted n) (thinned K k es)
unfolding thinned
thinned-behind n K k [] = refl
thinned-behind n K k (e ∷ es) =
    rw (thinned-behind n K (suc k) es) (bool_cases (eqb e.kind 5 || K k) (λ q. rw q refl) (λ q. rw q refl))

-- ---- entries, packed

abbrev pub Loaded : ℕ → List ℕ → List ℕ → ℕ → Type 0
Loaded s c t i = (m : ℕ) → m < i → (get_or t (s + m) 0 ≡ packed (shifted s (nth (entries_of c) (suc m)))) × Bounded (shifted s (nth (entries_of c) (suc m)))

pub load-more : (c : List ℕ) (total s : ℕ) (t : List ℕ) (i : ℕ) {e f : Entry} {x : ℕ} → total ≡ length (entries_of c) → s + i < length t → Bounded f
    → e ≡ entry_of c total (i + 1) → f ≡ shifted s e → x ≡ packed f → Loaded s c t i → Loaded s c (set t (s + i) x) (i + 1)
load-more c total s t i {e} {f} {x} n within b q g p h m l =
    let w : i + 1 ≡ suc i = omega arith in
    let is : e ≡ nth (entries_of c) (suc i) = q ∙ of-nth c total (i + 1) n ∙ ap (nth (entries_of c)) w in
    let stands : f ≡ shifted s (nth (entries_of c) (suc i)) = g ∙ ap (shifted s) is in
    eq-cases m i
    (λ z. rw z (get_or-set_same t (s + i) x 0 within ∙ p ∙ ap packed stands, rw stands at b))
    (λ z. let r = h m (omega arith) in (get_or-set_other t (s + i) (s + m) x 0 (λ y. z (omega arith)) ∙ r.0, r.1))

pub load-whole : (c : List ℕ) (s : ℕ) (t : List ℕ) (i : ℕ) → length (entries_of c) ≤ i → Loaded s c t i → Packed (map (shifted s) (entries_of c)) t s
unfolding nth
load-whole c s t i h f =
    let long = length-map (entries_of c) (shifted s) in
    let there : (k : ℕ) → k < length (entries_of c) → get_or (map (shifted s) (entries_of c)) k zero_entry ≡ shifted s (get_or (entries_of c) k zero_entry)
    = λ k l. get_d-map-in (shifted s) (entries_of c) zero_entry zero_entry k l in
    record {
      each = λ k l. rw (there k (omega (arith, long))) (f k (omega (arith, long))).0;
      bounded = record { each = λ k l. rw (there k (omega (arith, long))) (f k (omega (arith, long))).1 };
    }

-- what stands before stays
pub front-stays : (t u : List ℕ) (s i x : ℕ) → ((j : ℕ) → j < s → get_or u j 0 ≡ get_or t j 0) → (j : ℕ) → j < s → get_or (set u (s + i) x) j 0 ≡ get_or t j 0
front-stays t u s i x f j h = get_or-set_other u (s + i) j x 0 (λ z. omega arith) ∙ f j h

-- ---- where all stand

-- both parts in one table
pub listed-both : (f t : List Entry) {a b : List ℕ} {s n : ℕ} → s ≡ length f → n ≡ length t → Legal Description f → Legal Description t
    → Packed (map (shifted 0) f) a 0 → ((i : ℕ) → i < s → get_or b i 0 ≡ get_or a i 0) → Packed (map (shifted s) t) b s
    → Listed f (map (shifted s) t) b s n
unfolding both nth
listed-both f t {a} {b} {s} {n} e m F T p keep q =
    let long = length-map t (shifted s) in
    let front : Packed f a 0 = rw (behind-none f) at p in
    record {
      before = e;
      count = m ∙ sym long;
      front = record {
        each = λ i h. let z : 0 + i ≡ i = omega arith in rw z (keep i (omega (arith, e)) ∙ (rw z at (front.each i h)));
        bounded = front.bounded;
      };
      rest = q;
      legal = λ K. let J : Legal Description (f ++ map (shifted (length f)) (thinned K 1 t)) = legal-joined f (thinned K 1 t) F (legal-thinned K t T) in
          rw (thinned-behind s K 1 t, e) J;
    }

-- an empty slice has no entries, and is legal
pub none-entered : entries_of [] ≡ []
unfolding entries_of entries_from total_in blocks_in used_in word_at
none-entered = refl

pub none-legal : Legal Description (entries_of [])
none-legal =
    let e : length (entries_of []) ≡ 0 = ap length none-entered in
    record { form = λ n lo hi. absurd (omega (arith, e)); owner = λ n lo hi. absurd (omega (arith, e)); depth = λ n lo hi. absurd (omega (arith, e)) }

-- past the end nothing may not be left out
past : (es : List Entry) (k : ℕ) → (k ≡ 0) ⊎ (length es < k) → sayers es k ≡ true
unfolding nth
past es k (inl z) = rw z refl
past es zero (inr l) = refl
past es (suc k) (inr l) = let z : get_or es k zero_entry ≡ zero_entry = get_or-eq_default es zero_entry {n = k} (omega arith) in rw z refl

-- a table where all that may be left out are put back, of one where all marks are set
pub all-put : (es : List Entry) (n : ℕ) (t : List Bool) → n ≡ length es
    → ((k : ℕ) → get_or t k true ≡ cond (ltb 0 k && leb k n) (sayers es k) (get_or (replicate 1009 true) k true)) → set_of t ≡ sayers es
all-put es n t e h =
    fun_ext (λ k. h k ∙ bool_cases (ltb 0 k && leb k n) (λ q. rw q refl) (λ q. rw q (full k ∙ sym (past es k (outside k q)))))
  where
    full : (k : ℕ) → get_or (replicate 1009 true) k true ≡ true
    full k = lt-cases k 1009 (λ l. get_or-replicate 1009 k true true l) (λ l. get_or-eq_default (replicate 1009 true) true {n = k} (omega (arith, length-replicate {A = Bool} 1009 true)))

    outside : (k : ℕ) → (ltb 0 k && leb k n) ≡ false → (k ≡ 0) ⊎ (length es < k)
    outside zero q = inl refl
    outside (suc k) q = inr (let z : ltb 0 (suc k) ≡ true = omega tests in let y : leb (suc k) n ≡ false = rw z at q in omega tests)

pub all-open : (es : List Entry) (n : ℕ) {K : ℕ → Bool} → K ≡ sayers es → Open es n K
all-open es n e k lo hi = ap (λ (F : ℕ → Bool). F k) e

-- where all are set all stay
pub all-marked : (es : List Entry) (k : ℕ) → thinned (set_of (replicate 1009 true)) k es ≡ es
all-marked es k = thinned-all (set_of (replicate 1009 true)) k es (λ i h. rw (full (k + i)) (last (eqb (get_or es i zero_entry).kind 5)))
  where
    full : (j : ℕ) → get_or (replicate 1009 true) j true ≡ true
    full j = lt-cases j 1009 (λ l. get_or-replicate 1009 j true true l) (λ l. get_or-eq_default (replicate 1009 true) true {n = j} (omega (arith, length-replicate {A = Bool} 1009 true)))

    last : (a : Bool) → (a || true) ≡ true
    last true = refl
    last false = refl

-- what is left where those that may be left out stand is the list itself
pub sayers-left : (es : List Entry) → thinned (sayers es) 1 es ≡ es
unfolding nth
sayers-left es =
    thinned-all (sayers es) 1 es (λ i h. let z : 1 + i ≡ suc i = omega arith in rw z (either (eqb (get_or es i zero_entry).kind 5)))
  where
    either : (a : Bool) → (a || not a) ≡ true
    either true = refl
    either false = refl

-- ---- what is asked

module _ (b : Background) (f t d : List Entry) {s : ℕ} (e : s ≡ length f) where
  abbrev pub Behind : List Entry
  Behind = map (shifted s) t

  -- of the list in the table
  pub enough-beside : enough b f Behind d ≡ suffices_beside b f t d
  unfolding both
  enough-beside = fun_ext (λ K. rw (thinned-behind s K 1 t, e) refl)

  pub all-together : (K : ℕ → Bool) → thinned K 1 Behind ≡ Behind → enough b f Behind d K ≡ eqb (failing b (both f t) d) 0
  unfolding both
  all-together K k = rw (k, e) refl

  -- and what leaving out ends with, with owners
  pub left-kept : {n : ℕ} {K L : ℕ → Bool} → n ≡ length t → K ≡ sayers Behind → L ≡ keep_from (enough b f Behind d) n K
      → (k : ℕ) → marked L t k ≡ marked (left_beside b f t d) t k
  unfolding left_beside
  left-kept {n} {K} {L} m k l j =
      ap (λ (M : ℕ → Bool). marked M t j)
      (l
      ∙ ap (λ (P : (ℕ → Bool) → Bool). keep_from P n K) enough-beside
      ∙ ap (λ (i : ℕ). keep_from (suffices_beside b f t d) i K) m
      ∙ ap (keep_from (suffices_beside b f t d) (length t)) (k ∙ sayers-behind s t))

-- the more is kept, the more surely it is enough
pub grows-beside : {b : Background} → LawfulBackground b → (f t d : List Entry) → Legal Description f → Legal Description t → Legal Description d
    → {s : ℕ} → s ≡ length f → Grows (enough b f (map (shifted s) t) d)
grows-beside {b} law f t d F T D e = subst Grows (sym (enough-beside b f t d e)) more
  where
    more : Grows (suffices_beside b f t d)
    more K M p h =
        let A = contained-all law (both f (thinned K 1 t)) d D in
        let B = contained-all law (both f (thinned M 1 t)) d D in
        eq-eqb (B.1 (λ r kept x i g.
        let y = (with-exactly law f t F T M r x).0 g in
        A.0 (eqb-eq h) r kept x i ((with-exactly law f t F T K r x).1 (y.0, thinner-subsumed {b = b} K M t T p r kept x i y.1))))

-- ---- the ways to an answer

module _ (P f t d out : List ℕ) where
  pub left-short : length out < length (entries_of t) → (refused Room 0 0 ≡ leaving_of P f t d out) × (out ≡ left_of P f t d out)
  unfolding leaving_of left_of
  left-short h = (rw (lt-ltb h) refl, rw (lt-ltb h) refl)

  pub left-given : length (entries_of t) ≤ length out
      → (Ok (together P f t d) ≡ leaving_of P f t d out) × (marked_bytes (stays_in P f t d) (length (entries_of t)) out ≡ left_of P f t d out)
  unfolding leaving_of left_of
  left-given h = (rw (ge-ltb h) refl, rw (ge-ltb h) refl)
