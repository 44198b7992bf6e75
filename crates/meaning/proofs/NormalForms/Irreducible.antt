-- The converse of `no-rule`: an accepted list of entries that ascends, and to which none of the rules applies, is its own normal form. So
-- the rules, as predicates on entries, leave nothing out.
-- Assumes nothing.
use Prim.Native.Nat.{◌+◌, ◌-◌, ◌<◌, ◌≤◌, suc, zero, ℕ}
use lib.Dec.{eqb, ltb}
use lib.ListN.{get_or, length}
use mathlib.Core.Bool.{Bool, ◌&&◌, false, true}
use mathlib.Core.List.{List, [], ◌∷◌, map}
use mathlib.Core.Logic.{◌≢◌, ◌⊎◌, inl, inr}
use mathlib.Core.Option.{some}
use mathlib.Core.Path.{◌∙◌, ◌≡◌, ap, refl}
use native.Mathlib.Omega.{arith}
use Rattle.base.proofs.Missing.{not-true, opt_cases, some-none}
use Rattle.base.proofs.Tests.{and_both, and_left, and_right, bool_cases, both_ways, eq-cases, eqb-eq, eqb-ne, lt-cases, ne_eqb, not-to-true, or_cases, or-none, tests}
use Rattle.base.specs.Ascending.{AllAfter, Sorted}
use Rattle.blocks.proofs.Refusing.Legal.{owner-earlier}
use Rattle.blocks.specs.Entries.{form_ok, kind_ok, name_ok, nth, number_ok, zero_entry}
use Rattle.blocks.specs.Owners.{owner_of}
use Rattle.blocks.specs.Promise.{Legal}
use Rattle.blocks.specs.declared.Entry.{Entry}
use Rattle.blocks.specs.declared.Schema.TheVariants.{Description}
use Rattle.logic.proofs.NormalForm.IsNormal.{canonical-end}
use Rattle.logic.proofs.OneMeaning.Unique.{normal-fixed}
use Rattle.logic.proofs.PlaceTrees.Lookup.{excluder}
use Rattle.logic.specs.Background.{Background, LawfulBackground}
use Rattle.logic.specs.Canonical.{Above, Ascending, Canonical, Clean, Normal, canonical}
use Rattle.logic.specs.Normal.{at_most, before, bottom, excluded, find, found, is_end, nf, rank, sub, supports, under}
use Rattle.logic.specs.Place.{Kind, atom, has, kind_of, lacks, least, most, nothing}
use Rattle.logic.specs.Tree.{tree}
use Rattle.meaning.proofs.Descriptions.Lookups.{find_none, find-some, kind-range, match-fields, match-within, place_end, rank-kind, sub-none, sub-some}
use Rattle.meaning.specs.Description.{place_of, row_of}
use Rattle.meaning.specs.Lookup.{entry_for}
use Rattle.meaning.specs.RowEntries.{entry_before}
use Rattle.meaning.specs.Rules.{AloneSix, Applies, Clashes, Is, IsEvery, Overasks, rule-11, rule-12, rule-2, rule-3, rule-4, rule-5, rule-8, rule-9}

-- ---- entries that ascend give places that ascend

abbrev Kinds : List Entry → Type 0
Kinds [] = Unit {0}
Kinds (e ∷ es) = (1 ≤ e.kind) × (e.kind ≤ 6) × Kinds es

-- each 'every', where the entries count from k, owns something
abbrev Owning : ℕ → List Entry → Type 0
Owning k [] = Unit {0}
Owning k (e ∷ es) = (e.kind ≡ 5 → is_end (tree (suc k) (map row_of es) k) ≡ false) × Owning (suc k) es

above-after : (e : Entry) (k : ℕ) (es : List Entry) → Kinds es → AllAfter entry_before e es → Above e.kind e.name (tree k (map row_of es) e.owner)
unfolding tree row_of
above-after e k [] h a = tt
above-after e k (f ∷ es) h a =
    let rest : Above e.kind e.name (tree (suc k) (map row_of es) e.owner) = above-after e (suc k) es h.2 a.1 in
    bool_cases (eqb e.owner f.owner)
    (λ q.
    let b : before e.kind e.name f.kind f.name ≡ true =
    or_cases (ltb e.owner f.owner) (eqb e.owner f.owner && before e.kind e.name f.kind f.name) a.0
    (λ z. absurd (omega tests)) (λ z. and_right (eqb e.owner f.owner) (before e.kind e.name f.kind f.name) z) in
    bool_cases (eqb f.kind 5)
    (λ p. let i : f.kind ≡ 5 = eqb-eq p in rw (p, q) (rw i at b, rest))
    (λ p. let i : rank (kind_of f.kind) ≡ f.kind = rank-kind f.kind h.0 h.1 (eqb-ne p) in rw (p, q) (rw i b, rest)))
    (λ q. bool_cases (eqb f.kind 5) (λ p. rw (p, q) rest) (λ p. rw (p, q) rest))

ascending-tree : (k o : ℕ) (es : List Entry) → Kinds es → Sorted entry_before es → Owning k es → Ascending (tree k (map row_of es) o)
unfolding tree row_of
ascending-tree k o [] h s w = tt
ascending-tree k o (e ∷ es) h s w =
    let rest : Ascending (tree (suc k) (map row_of es) o) = ascending-tree (suc k) o es h.2 s.1 w.1 in
    bool_cases (eqb o e.owner)
    (λ q.
    let i : o ≡ e.owner = eqb-eq q in
    let over' : Above e.kind e.name (tree (suc k) (map row_of es) o) = rw i (above-after e (suc k) es h.2 s.0) in
    bool_cases (eqb e.kind 5)
    (λ p. let j : e.kind ≡ 5 = eqb-eq p in rw (p, q) (rw j at over', w.0 j, rest))
    (λ p. let j : rank (kind_of e.kind) ≡ e.kind = rank-kind e.kind h.0 h.1 (eqb-ne p) in rw (p, q) (rw j over', rest)))
    (λ q. bool_cases (eqb e.kind 5) (λ p. rw (p, q) rest) (λ p. rw (p, q) rest))

-- where a place is empty, no entry has its owner
unowned : (k o : ℕ) (es : List Entry) → is_end (tree k (map row_of es) o) ≡ true → (p : ℕ) → p < length es → (get_or es p zero_entry).owner ≢ o
unfolding tree row_of
unowned k o [] h p l z = omega arith
unowned k o (e ∷ es) h zero l z =
    let q : eqb o e.owner ≡ true = omega tests in
    bool_cases (eqb e.kind 5)
    (λ p. let y : false ≡ true = rw (p, q) at h in let x : ◌≡◌ {A = ℕ} 0 1 = cc in omega arith)
    (λ p. let y : false ≡ true = rw (p, q) at h in let x : ◌≡◌ {A = ℕ} 0 1 = cc in omega arith)
unowned k o (e ∷ es) h (suc p) l z =
    bool_cases (eqb o e.owner)
    (λ q. bool_cases (eqb e.kind 5)
    (λ r. let y : false ≡ true = rw (r, q) at h in let x : ◌≡◌ {A = ℕ} 0 1 = cc in omega arith)
    (λ r. let y : false ≡ true = rw (r, q) at h in let x : ◌≡◌ {A = ℕ} 0 1 = cc in omega arith))
    (λ q. bool_cases (eqb e.kind 5)
    (λ r. unowned (suc k) o es (rw (r, q) at h) p (omega arith) z)
    (λ r. unowned (suc k) o es (rw (r, q) at h) p (omega arith) z))

-- ---- fields of accepted entries

pub no-reserved : (e : Entry) → form_ok Description e ≡ true → e.reserved ≡ 0
unfolding form_ok
no-reserved e h =
    let rest : Bool = name_ok e.kind e.name && number_ok e.kind e.number in
    eqb-eq (and_left (eqb e.reserved 0) rest (and_right (kind_ok Description e.kind) (eqb e.reserved 0 && rest) h))

pub number_ok_lem : (e : Entry) → form_ok Description e ≡ true → number_ok e.kind e.number ≡ true
unfolding form_ok
number_ok_lem e h =
    let rest : Bool = name_ok e.kind e.name && number_ok e.kind e.number in
    let a : rest ≡ true = and_right (eqb e.reserved 0) rest (and_right (kind_ok Description e.kind) (eqb e.reserved 0 && rest) h) in
    and_right (name_ok e.kind e.name) (number_ok e.kind e.number) a

pub no_number : (k m : ℕ) → number_ok k m ≡ true → k ≢ 3 → k ≢ 4 → k ≢ 7 → m ≡ 0
unfolding number_ok
no_number k m h a b c = eqb-eq (rw (ne_eqb a, ne_eqb b, ne_eqb c) at h)

-- kind 6 has no name
name-zero : (e : Entry) → form_ok Description e ≡ true → e.kind ≡ 6 → e.name ≡ 0
unfolding form_ok name_ok
name-zero e h z =
    let rest : Bool = name_ok e.kind e.name && number_ok e.kind e.number in
    let a : rest ≡ true = and_right (eqb e.reserved 0) rest (and_right (kind_ok Description e.kind) (eqb e.reserved 0 && rest) h) in
    let b : name_ok e.kind e.name ≡ true = and_left (name_ok e.kind e.name) (number_ok e.kind e.number) a in
    eqb-eq (rw z at b)

-- each entry by its number
pub itself : (all : List Entry) (p : ℕ) → p < length all → get_or all p zero_entry ≡ nth all (1 + p)
unfolding nth
itself all p l = let w : 1 + p ≡ suc p = omega arith in rw w

module _ {b : Background} (law : LawfulBackground b) (all : List Entry) (legal : Legal Description all) (sorted : Sorted entry_before all)
    (none-applies : (k : ℕ) → Applies b k all → ⊥) where
  kinds-from : (k : ℕ) (es : List Entry) → 1 ≤ k → k + length es ≡ 1 + length all → ((p : ℕ) → p < length es → get_or es p zero_entry ≡ nth all (k + p)) → Kinds es
  kinds-from k [] lo t h = tt
  kinds-from k (e ∷ es) lo t h =
      let i : e ≡ nth all k = h 0 (omega arith) ∙ (let w : k + 0 ≡ k = omega arith in rw w) in
      let r = kind-range all legal k lo (omega arith) in
      (rw i r.0, rw i r.1, kinds-from (suc k) es (omega arith) (omega arith) (λ p l. h (suc p) (omega arith) ∙ (let w : k + suc p ≡ suc k + p = omega arith in rw w)))

  owning : (k : ℕ) (es : List Entry) → 1 ≤ k → k + length es ≡ 1 + length all → ((p : ℕ) → p < length es → get_or es p zero_entry ≡ nth all (k + p)) → Owning k es
  unfolding owner_of
  owning k [] lo t h = tt
  owning k (e ∷ es) lo t h =
      let i : e ≡ nth all k = h 0 (omega arith) ∙ (let w : k + 0 ≡ k = omega arith in rw w) in (
        λ z. not-true (λ y. none-applies 9 (rule-9 (record {
          entry = k;
          every = record {
            owner = (nth all k).owner;
            link = (nth all k).name;
            number = (nth all k).number;
            is-every = record { from_one = lo; to_last = omega arith; its-kind = rw (← i) z; its-owner = refl; its-name = refl; its-number = refl };
          };
          owns_none = λ n a b q. lt-cases k n
              (λ l.
              let p : ℕ = n - suc k in
              let j : get_or es p zero_entry ≡ nth all n = h (suc p) (omega arith) ∙ (let w : k + suc p ≡ n = omega arith in rw w) in
              unowned (suc k) k es y p (omega arith) (rw j q))
              (λ l. omega (arith, owner-earlier legal n a b, q));
        }))),
        owning (suc k) es (omega arith) (omega arith) (λ p l. h (suc p) (omega arith) ∙ (let w : k + suc p ≡ suc k + p = omega arith in rw w)),
      )

  ascending-place : (o : ℕ) → Ascending (place_of all o)
  unfolding place_of
  ascending-place o = ascending-tree 1 o all (kinds-from 1 all (omega arith) refl (itself all)) sorted (owning 1 all (omega arith) refl (itself all))

  -- ---- what a place lists are entries

  record Listed (a : Kind) (o n m : ℕ) : Type 0 where
    pub entry : ℕ
    pub is : Is all entry (rank a) o n m

  is-listed : (a : Kind) (o n m : ℕ) → find a n (place_of all o) ≡ some m → Listed a o n m
  is-listed a o n m e =
      eq-cases (entry_for all o (rank a) n) 0
      (λ z. some-none e (find_none all legal o a n z))
      (λ z.
      let f = match-fields all o (rank a) n refl z in
      let s = find-some all legal o a n refl z in
      let i : (nth all (entry_for all o (rank a) n)).number ≡ m = cc in
      record {
        entry = entry_for all o (rank a) n;
        is = record { from_one = omega (arith, z); to_last = match-within all o (rank a) n; its-kind = f.1; its-owner = f.0; its-name = f.2; its-number = i };
      })

  record Below (o l : ℕ) : Type 0 where
    pub entry : ℕ
    pub every : IsEvery all entry
    pub is : Is all entry 5 o l (nth all entry).number
    pub below : sub l (place_of all o) ≡ place_of all entry

  is_below : (o l : ℕ) → is_end (sub l (place_of all o)) ≡ false → Below o l
  is_below o l e =
      eq-cases (entry_for all o 5 l) 0
      (λ z. let y : true ≡ false = rw (sub-none all legal o l z) at e in let x : ◌≡◌ {A = ℕ} 0 1 = cc in absurd (omega arith))
      (λ z.
      let j : ℕ = entry_for all o 5 l in
      let f = match-fields all o 5 l refl z in
      let i : Is all j 5 o l (nth all j).number
      = record { from_one = omega (arith, z); to_last = match-within all o 5 l; its-kind = f.1; its-owner = f.0; its-name = f.2; its-number = refl } in
      record { entry = j; every = record { owner = o; link = l; number = (nth all j).number; is-every = i }; is = i; below = sub-some all legal o l refl z })

  module _ (several : AloneSix all → ⊥) where
    -- ---- no place is impossible

    abbrev Home : ℕ → Type 0
    Home o = (o ≡ 0) ⊎ IsEvery all o

    no-clash : (o : ℕ) → Home o → Clashes b all o → ⊥
    no-clash o (inl z) c = none-applies 5 (rule-5 (record { impossible = inl (rw z at c); not-alone = several }))
    no-clash o (inr v) c = none-applies 2 (rule-2 (record { place = o; every = v; clashes = c }))

    no-cross : (o : ℕ) → Home o → Overasks b all o → ⊥
    no-cross o (inl z) c = none-applies 5 (rule-5 (record { impossible = inr (rw z at c); not-alone = several }))
    no-cross o (inr v) c = none-applies 3 (rule-3 (record { place = o; every = v; overasks = c }))

    no-numbers : (a : Kind) {o n m : ℕ} → Listed a o n m → rank a ≢ 3 → rank a ≢ 4 → rank a ≢ 7 → eqb m 0 ≡ true
    no-numbers a {m = m} x r s t =
        let i = x.is in
        let z : number_ok (rank a) m ≡ true = rw (i.its-kind, i.its-number) at (number_ok_lem (nth all x.entry) (legal.form x.entry i.from_one i.to_last)) in
        let y : m ≡ 0 = no_number (rank a) m z r s t in
        omega tests

    -- ---- what a place lists is at odds with nothing, and tells something

    -- a property is not lacked, and no other excludes it
    not-lacked : (o n m : ℕ) → Home o → find has n (place_of all o) ≡ some m → found (find lacks n (place_of all o)) ≡ false
    not-lacked o n m h e =
        let x = is-listed has o n m e in
        opt_cases (find lacks n (place_of all o)) (λ q. rw q)
        (λ m' q.
        let y = is-listed lacks o n m' q in
        absurd (no-clash o h (inl (record { having = x.entry; lacking = y.entry; property = n; number = m; number' = m'; is-having = x.is; is-lacking = y.is }))))

    not-excluded : (o n m : ℕ) → Home o → find has n (place_of all o) ≡ some m → excluded b n (place_of all o) ≡ false
    not-excluded o n m h e =
        not-true (λ y.
        let x = is-listed has o n m e in
        let w = excluder b n (place_of all o) y in
        let v = is-listed has o w.name w.number w.listed in
        no-clash o h (inr (inr (record {
          one = v.entry;
          other = x.entry;
          property = w.name;
          property' = n;
          number = w.number;
          number' = m;
          excluding = w.against;
          is_one = v.is;
          is-other = x.is;
        }))))

    -- a lack is not implied
    not-implied : (o n m : ℕ) → find lacks n (place_of all o) ≡ some m → excluded b n (place_of all o) ≡ false
    not-implied o n m e =
        not-true (λ y.
        let x = is-listed lacks o n m e in
        let w = excluder b n (place_of all o) y in
        let v = is-listed has o w.name w.number w.listed in
        none-applies 11 (rule-11 (record {
          having = v.entry;
          lacking = x.entry;
          owner = o;
          property = w.name;
          property' = n;
          number = w.number;
          number' = m;
          excluding = w.against;
          is-having = v.is;
          is-lacking = x.is;
        })))

    -- an at least is within the at most and the cap of its link
    not-crossed : (o n m m' : ℕ) → Home o → find least n (place_of all o) ≡ some m → find most n (place_of all o) ≡ some m' → ltb m' m ≡ false
    not-crossed o n m m' h e q =
        not-true (λ y.
        let x = is-listed least o n m e in
        let v = is-listed most o n m' q in
        no-cross o h (inl (record {
          asking = x.entry;
          allowing = v.entry;
          link = n;
          n = m;
          m = m';
          is-asking = x.is;
          is-allowing = v.is;
          less = omega tests;
        })))

    not-exceeding : (o n m : ℕ) → Home o → find least n (place_of all o) ≡ some m → under m (b.cap n) ≡ false
    not-exceeding o n m h e =
        opt_cases (b.cap n) (λ q. rw q)
        (λ m' q. rw q (not-true (λ y.
        let x = is-listed least o n m e in
        no-cross o h (inr (record { asking = x.entry; link = n; n = m; m = m'; is-asking = x.is; capped = q; less = omega tests })))))

    -- an at most is not said by the cap
    not-said : (o n m : ℕ) → find most n (place_of all o) ≡ some m → at_most m (b.cap n) ≡ false
    not-said o n m e =
        opt_cases (b.cap n) (λ q. rw q)
        (λ m' q. rw q (not-true (λ y.
        let x = is-listed most o n m e in
        none-applies 12 (rule-12 (record { entry = x.entry; owner = o; link = n; n = m; m = m'; is-most = x.is; capped = q; said = omega tests })))))

    clean : (o : ℕ) → Home o → Clean b (place_of all o)
    clean o h has n m e = (
      or-none (not-lacked o n m h e) (not-excluded o n m h e),
      no-numbers has (is-listed has o n m e) (λ z. omega arith) (λ z. omega arith) (λ z. omega arith),
    )
    clean o h lacks n m e = (
      opt_cases (find has n (place_of all o)) (λ q. rw q) (λ m' q. let f : found (find lacks n (place_of all o)) ≡ true = rw e in both_ways f (not-lacked o n m' h q)),
      and_both (no-numbers lacks (is-listed lacks o n m e) (λ z. omega arith) (λ z. omega arith) (λ z. omega arith))
          (not-to-true (not-implied o n m e)),
    )
    clean o h least n m e = (
      or-none {a = under m (find most n (place_of all o))}
          (opt_cases (find most n (place_of all o)) (λ q. rw q) (λ m' q. rw q (not-crossed o n m m' h e q))) (not-exceeding o n m h e),
      not-to-true (not-true (λ y.
          let z : m ≡ 0 = eqb-eq y in
          let x = is-listed least o n 0 (e ∙ ap some z) in
          none-applies 8 (rule-8 (record { entry = x.entry; owner = o; link = n; is-least = x.is })))),
    )
    clean o h most n m e = (
      opt_cases (find least n (place_of all o)) (λ q. rw q) (λ m' q. rw q (not-crossed o n m' m h q e)),
      not-to-true (not-said o n m e),
    )
    clean o h nothing n m e =
        let x = is-listed nothing o n m e in
        absurd (no-clash o h (inr (inl (record { entry = x.entry; name = n; number = m; is-nothing = x.is }))))

    -- no 'every' beside an at most 0
    no-every : (o l : ℕ) → is_end (sub l (place_of all o)) ≡ false → supports b (place_of all o) (atom most l 0) ≡ false
    no-every o l e =
        let v = is_below o l e in
        or-none {a = at_most 0 (find most l (place_of all o))} {b = at_most 0 (b.cap l)}
        (opt_cases (find most l (place_of all o)) (λ q. rw q)
        (λ m q. rw q (not-true (λ y.
        let z : m ≡ 0 = omega tests in
        let x = is-listed most o l 0 (q ∙ ap some z) in
        none-applies 4 (rule-4 (record { bound = x.entry; removed = v.entry; owner = o; link = l; number = (nth all v.entry).number; is_bound = x.is; is_removed = v.is }))))))
        (opt_cases (b.cap l) (λ q. rw q) (λ m q. rw q (omega (tests, law.some_item l m q))))

    canonical-at : (left o : ℕ) → length all < o + left → Home o → Canonical b (place_of all o)
    unfolding owner_of
    canonical-at zero o l h = rw (place_end all legal o (omega arith)) (canonical-end law)
    canonical-at (suc left) o l h =
        canonical (ascending-place o) (clean o h) (λ k e. no-every o k e)
        (λ k e.
        let v = is_below o k e in
        let early = owner-earlier legal v.entry v.is.from_one v.is.to_last in
        rw v.below (canonical-at left v.entry (omega (arith, v.is.its-owner)) (inr v.every)))

  -- one entry of kind 6 alone is the place that nothing fits
  alone-bottom : (es : List Entry) → Legal Description es → AloneSix es → place_of es 0 ≡ bottom
  unfolding place_of tree row_of kind_of nth owner_of
  alone-bottom [] L s = absurd (omega (arith, s.alone))
  alone-bottom (e ∷ f ∷ es) L s = absurd (omega (arith, s.alone))
  alone-bottom (e ∷ []) L s =
      let k : e.kind ≡ 6 = s.six in
      let o : e.owner ≡ 0 = omega (arith, owner-earlier L 1 (omega arith) (omega arith)) in
      let m : e.number ≡ 0 = no_number 6 e.number (rw k at (number_ok_lem e (L.form 1 (omega arith) (omega arith)))) (λ z. omega arith) (λ z. omega arith) (λ z. omega arith) in
      let n : e.name ≡ 0 = name-zero e (L.form 1 (omega arith) (omega arith)) k in
      rw (k, o, m, n)

  irreducible-normal : Normal b (place_of all 0)
  irreducible-normal =
      eq-cases (length all) 1
      (λ a. eq-cases (nth all 1).kind 6
      (λ s. inl (alone-bottom all legal (record { alone = a; six = s })))
      (λ s. inr (canonical-at (λ x. s x.six) (suc (length all)) 0 (omega arith) (inl refl))))
      (λ a. inr (canonical-at (λ x. a x.alone) (suc (length all)) 0 (omega arith) (inl refl)))

  -- an accepted list that ascends and to which no rule applies is its own normal form
  pub irreducible-fixed : nf b (place_of all 0) ≡ place_of all 0
  irreducible-fixed = normal-fixed law (place_of all 0) irreducible-normal
