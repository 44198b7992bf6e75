-- Where no two entries of C and D at one path clash: an entry of D is marked exactly if neither every record keeps it,
-- nor one entry of C by itself says it, nor one of D before it, nor a marked one after it.
-- Assumes nothing.
use Prim.Native.Nat.{◌+◌, ◌-◌, ◌≤◌, ℕ}
use lib.Dec.{eqb, leb}
use lib.ListN.{length}
use mathlib.Core.Bool.{Bool, ◌||◌, false, false≢true, not, true}
use mathlib.Core.List.{List, [], ◌∷◌}
use mathlib.Core.Logic.{◌≢◌, ◌↔◌, ◌⊎◌, inl, inr, ⊎_elim}
use mathlib.Core.Option.{Option, none, some}
use mathlib.Core.Path.{◌∙◌, ◌≡◌, ap, refl, subst, sym}
use native.Mathlib.Omega.{arith}
use Rattle.base.proofs.Tests.{and_both, and_left, and_right, bool_cases, both_ways, eq-eqb, false_of_not, lt-cases, ne_eqb, not-to-true, or-none, tests}
use Rattle.blocks.specs.Entries.{nth}
use Rattle.blocks.specs.Promise.{Legal}
use Rattle.blocks.specs.declared.Entry.{Entry}
use Rattle.blocks.specs.declared.Schema.TheVariants.{Description}
use Rattle.logic.specs.Background.{Background, LawfulBackground}
use Rattle.logic.specs.Normal.{clash, excluded, find, supports, under}
use Rattle.logic.specs.Place.{kind_of, Atom, atom, has, lacks, least, most, nothing}
use Rattle.logic.specs.Tree.{end}
use Rattle.meaning.specs.Description.{atom_of, links_to}
use Rattle.narrow.proofs.Missing.Additions.{With, missing-each, standing_at}
use Rattle.narrow.proofs.Telling.EntriesTold.{Peaceful, ToldBy, told-exactly}
use Rattle.narrow.proofs.Missing.BothEntries.{first-path, first-there, joined-size, legal-joined, second-path, second-there}
use Rattle.narrow.proofs.Telling.Peaceful.{clash-empty}
use Rattle.narrow.proofs.Keeping.Thinned.{legal-thinned, nth-thinned, same-path, size}
use Rattle.narrow.specs.Heard.{alone}
use Rattle.narrow.specs.Keeping.{neutral, thinned, without}
use Rattle.narrow.specs.Missing.{both, missing}
use Rattle.narrow.specs.Told.{tells}
use Rattle.passes.proofs.Cells.CellsTell.{cap-open}

-- what an entry says that stands in place of one that is left out
abbrev pub idle : Atom
idle = atom least 1 0

pub not-every : (k : ℕ) (t : Bool) → k ≢ 5 → (eqb k 5 || t) ≡ true → t ≡ true
not-every k t z q = rw (ne_eqb z) at q

pub kept-entry : (d : List Entry) (K : ℕ → Bool) (m : ℕ) → 1 ≤ m → m ≤ length d → (nth d m).kind ≢ 5 → K m ≡ true → nth (thinned K 1 d) m ≡ nth d m
kept-entry d K m lo hi z k = nth-thinned K d m lo hi ∙ rw (ne_eqb z, k)

module _ {b : Background} (law : LawfulBackground b) where
  -- it clashes with nothing
  pub idle-first : (y : Atom) → clash b end y ≡ false → clash b (alone idle) y ≡ false
  unfolding find excluded
  idle-first (atom has p m) e = refl
  idle-first (atom lacks p m) e = refl
  idle-first (atom least l m) e = e
  idle-first (atom most l m) e = bool_cases (eqb l 1) (λ q. rw q (omega tests)) (λ q. rw q)
  idle-first (atom nothing l m) e = e

  none-under : (o : Option ℕ) → under 0 o ≡ false
  none-under none = refl
  none-under (some q) = omega tests

  pub idle-second : (x : Atom) → clash b (alone x) idle ≡ false
  idle-second x = or-none (none-under (find most 1 (alone x))) (none-under (b.cap 1))

  -- and tells nothing
  idle-supports : (a : Atom) → supports b (alone idle) a ≡ true → supports b end a ≡ true
  unfolding find excluded
  idle-supports (atom has p m) e = e
  idle-supports (atom lacks p m) e = e
  idle-supports (atom least l m) e =
      bool_cases (eqb l 1)
      (λ q. let z : leb m 0 ≡ true = rw q at e in omega tests)
      (λ q. rw q at e)
  idle-supports (atom most l m) e = e
  idle-supports (atom nothing l m) e = e

  pub idle-tells : (v : List ℕ) (w : List ℕ) (a : Atom) → tells b v idle w a ≡ true → supports b end a ≡ true
  unfolding tells find
  idle-tells [] [] a e = idle-supports a e
  idle-tells [] (l ∷ w) a e = both_ways e (cap-open law l)
  idle-tells (l' ∷ v) [] a e = absurd (false≢true e)
  idle-tells (l' ∷ v) (l ∷ w) a e = idle-tells v w a (and_right (eqb l l') (tells b v idle w a) e)

  module _ (c d : List Entry) (C : Legal Description c) (D : Legal Description d) where
    module _ (K : ℕ → Bool) where
      abbrev W : List Entry
      W = With law c d C D K

      -- an entry of C with what is kept of D is one of C and D, or idle
      record Origin (n : ℕ) : Type 0 where
        pub path : links_to W n ≡ links_to (both c d) n
        pub atom : ((atom_of (nth W n) ≡ atom_of (nth (both c d) n)) × ((nth (both c d) n).kind ≢ 5)) ⊎ (atom_of (nth W n) ≡ idle)

      first-origin : (n : ℕ) → 1 ≤ n → n ≤ length c → (nth W n).kind ≢ 5 → Origin n
      first-origin n lo hi z =
          let e : nth W n ≡ nth (both c d) n = first-there c (thinned K 1 d) n lo hi ∙ sym (first-there c d n lo hi) in
          record {
            path = first-path c (thinned K 1 d) C (legal-thinned K d D) n lo hi ∙ sym (first-path c d C D n lo hi);
            atom = inl (ap atom_of e, rw e at z);
          }

      second-origin : (m : ℕ) → 1 ≤ m → m ≤ length d → (nth W (length c + m)).kind ≢ 5 → Origin (length c + m)
      unfolding kind_of
      second-origin m lo hi z =
          let e = second-there c (thinned K 1 d) m lo (rw (size K d) hi) in
          let f = second-there c d m lo hi in
          let g = nth-thinned K d m lo hi in
          record {
            path = second-path c (thinned K 1 d) C (legal-thinned K d D) m lo (rw (size K d) hi) ∙ same-path K d D m lo hi ∙ sym (second-path c d C D m lo hi);
            atom = bool_cases (eqb (nth d m).kind 5 || K m)
                (λ q.
                let s : nth (thinned K 1 d) m ≡ nth d m = rw q at g in
                inl (ap atom_of e ∙ ap atom_of s ∙ sym (ap atom_of f), λ y. z (ap (λ (u : Entry). u.kind) e ∙ ap (λ (u : Entry). u.kind) s ∙ sym (ap (λ (u : Entry). u.kind) f) ∙ y)))
                (λ q. let s : nth (thinned K 1 d) m ≡ neutral (nth d m) = rw q at g in inr (ap atom_of e ∙ ap atom_of s));
          }

      origin : (n : ℕ) → 1 ≤ n → n ≤ length W → (nth W n).kind ≢ 5 → Origin n
      origin n lo hi z =
          lt-cases (length c) n
          (λ q.
          let w : length c + (n - length c) ≡ n = omega arith in
          let h : n - length c ≤ length d = omega (arith, joined-size c (thinned K 1 d), size K d) in
          subst Origin w (second-origin (n - length c) (omega arith) h (rw w z)))
          (λ q. first-origin n lo q z)

      same-length : length W ≡ length (both c d)
      same-length = joined-size c (thinned K 1 d) ∙ ap (λ (k : ℕ). length c + k) (size K d) ∙ sym (joined-size c d)

      -- what is left of entries of which no two clash
      pub peaceful-with : Peaceful b (both c d) → Peaceful b W
      peaceful-with P =
          record {
            apart = λ i j li hi lj hj zi zj e.
                let x = origin i li hi zi in
                let y = origin j lj hj zj in
                ⊎_elim
                (λ u. ⊎_elim
                (λ v. rw (u.0, v.0) (P.apart i j li (rw (← same-length) hi) lj (rw (← same-length) hj) u.1 v.1 (sym x.path ∙ e ∙ y.path)))
                (λ v. rw v (idle-second (atom_of (nth W i)))) y.atom)
                (λ u. rw u (⊎_elim
                (λ v. rw v.0 (idle-first (atom_of (nth (both c d) j))
                (clash-empty law (atom_of (nth (both c d) j)) (atom_of (nth (both c d) j))
                (P.apart j j lj (rw (← same-length) hj) lj (rw (← same-length) hj) v.1 v.1 refl))))
                (λ v. rw v (idle-second idle)) y.atom)) x.atom;
          }

    -- entry m of D, by itself, says entry n, and stands when that has its turn
    pub record Other (n : ℕ) : Type 0 where
      pub entry : ℕ
      pub from_one : 1 ≤ entry
      pub to_last : entry ≤ length d
      pub kind : (nth d entry).kind ≢ 5
      pub different : entry ≢ n
      pub stands : standing_at law c d C D n entry ≡ true
      pub telling : tells b (links_to d entry) (atom_of (nth d entry)) (links_to d n) (atom_of (nth d n)) ≡ true

    -- entry n needs no mark: every record keeps it, an entry of C says it, or another of D
    abbrev pub Said : ℕ → Type 0
    Said n = (supports b end (atom_of (nth d n)) ≡ true) ⊎ (ToldBy b c (links_to d n) (atom_of (nth d n)) ⊎ Other n)

    module _ (n : ℕ) where
      abbrev T : ℕ → Bool
      T = without n (standing_at law c d C D n)

      abbrev w : List ℕ
      w = links_to d n

      abbrev a : Atom
      a = atom_of (nth d n)

      -- ---- what tells it, in the one list

      from-first : (t : ToldBy b c w a) → ToldBy b (W T) w a
      from-first t =
          let e = first-there c (thinned T 1 d) t.entry t.from_one t.to_last in
          record {
            entry = t.entry;
            from_one = t.from_one;
            to_last = omega (arith, t.to_last, joined-size c (thinned T 1 d));
            kind = λ q. t.kind (sym (ap (λ (u : Entry). u.kind) e) ∙ q);
            telling = rw (e, first-path c (thinned T 1 d) C (legal-thinned T d D) t.entry t.from_one t.to_last) t.telling;
          }

      from-second : Other n → ToldBy b (W T) w a
      from-second t =
          let hi : t.entry ≤ length (thinned T 1 d) = rw (size T d) t.to_last in
          let k : T t.entry ≡ true = and_both t.stands (not-to-true (ne_eqb t.different)) in
          let e = second-there c (thinned T 1 d) t.entry t.from_one hi in
          let s = kept-entry d T t.entry t.from_one t.to_last t.kind k in
          record {
            entry = length c + t.entry;
            from_one = omega (arith, t.from_one);
            to_last = omega (arith, hi, joined-size c (thinned T 1 d));
            kind = λ q. t.kind (sym (ap (λ (u : Entry). u.kind) e ∙ ap (λ (u : Entry). u.kind) s) ∙ q);
            telling = rw (
              ap atom_of e,
              ap atom_of s,
              second-path c (thinned T 1 d) C (legal-thinned T d D) t.entry t.from_one hi,
              same-path T d D t.entry t.from_one t.to_last,
            ) t.telling;
          }

      -- ---- and where it comes from

      to-first : (i : ℕ) → 1 ≤ i → i ≤ length c → (nth (W T) i).kind ≢ 5 → tells b (links_to (W T) i) (atom_of (nth (W T) i)) w a ≡ true → ToldBy b c w a
      to-first i lo hi z t =
          let e = first-there c (thinned T 1 d) i lo hi in
          record {
            entry = i;
            from_one = lo;
            to_last = hi;
            kind = λ q. z (ap (λ (u : Entry). u.kind) e ∙ q);
            telling = rw (e, first-path c (thinned T 1 d) C (legal-thinned T d D) i lo hi) at t;
          }

      to-second : (m : ℕ) → 1 ≤ m → m ≤ length d → (nth (W T) (length c + m)).kind ≢ 5
          → tells b (links_to (W T) (length c + m)) (atom_of (nth (W T) (length c + m))) w a ≡ true → Said n
      unfolding kind_of
      to-second m lo hi z t =
          let hi' : m ≤ length (thinned T 1 d) = rw (size T d) hi in
          let e = second-there c (thinned T 1 d) m lo hi' in
          let g = nth-thinned T d m lo hi in
          let p = second-path c (thinned T 1 d) C (legal-thinned T d D) m lo hi' ∙ same-path T d D m lo hi in
          bool_cases (eqb (nth d m).kind 5 || T m)
          (λ q.
          let s : nth (thinned T 1 d) m ≡ nth d m = rw q at g in
          let y : (nth d m).kind ≢ 5 = λ v. z (ap (λ (u : Entry). u.kind) e ∙ ap (λ (u : Entry). u.kind) s ∙ v) in
          let k : T m ≡ true = not-every (nth d m).kind (T m) y q in
          inr (inr (record {
            entry = m;
            from_one = lo;
            to_last = hi;
            kind = y;
            different = λ v. both_ways (eq-eqb v) (false_of_not (eqb m n) (and_right (standing_at law c d C D n m) (not (eqb m n)) k));
            stands = and_left (standing_at law c d C D n m) (not (eqb m n)) k;
            telling = rw (p, ap atom_of e, ap atom_of s) at t;
          })))
          (λ q.
          let s : nth (thinned T 1 d) m ≡ neutral (nth d m) = rw q at g in
          let i : atom_of (nth (W T) (length c + m)) ≡ idle = ap atom_of e ∙ ap atom_of s in
          inl (idle-tells (links_to (W T) (length c + m)) w a (rw i at t)))

      to-entry : ToldBy b (W T) w a → Said n
      to-entry t =
          lt-cases (length c) t.entry
          (λ q.
          let v : length c + (t.entry - length c) ≡ t.entry = omega arith in
          let h : t.entry - length c ≤ length d = omega (arith, t.to_last, joined-size c (thinned T 1 d), size T d) in
          to-second (t.entry - length c) (omega arith) h (rw v t.kind) (rw v t.telling))
          (λ q. inr (inl (to-first t.entry t.from_one q t.kind t.telling)))

      -- a mark is needed exactly where nothing else says the entry
      pub missing-told : Peaceful b (both c d) → 1 ≤ n → n ≤ length d → (nth d n).kind ≢ 5 → (missing b c d n ≡ false) ↔ Said n
      missing-told P lo hi z =
          let L : Legal Description (W T) = legal-joined c (thinned T 1 d) C (legal-thinned T d D) in
          let x = told-exactly law (W T) L (peaceful-with T P) w a in
          let y = missing-each law c d C D n lo hi z in (
            λ e. ⊎_elim (λ v. inl v) to-entry (x.0 (y.0 e)),
            λ s. y.1 (x.1 (⊎_elim (λ v. inl v) (λ v. inr (⊎_elim from-first from-second v)) s)),
          )
