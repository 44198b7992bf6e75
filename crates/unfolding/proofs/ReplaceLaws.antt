-- Laws of going over entries whose names are replaced, one for each way through it.
-- Assumes nothing.
use Prim.Native.Nat.{◌+◌, ◌-◌, ◌<◌, ◌≤◌, suc, zero, ℕ}
use lib.Dec.{eqb, leb, ltb}
use lib.ListN.{get_or-append, drop, drop_of_length-le, get_or, length, length-append, length-drop, length-map, replicate, set}
use lib.Seq.{drop-cons, get_or-append-add, get_or-set_other, get_or-set_same}
use mathlib.Core.Bool.{◌&&◌, cond, false, true}
use mathlib.Core.List.{List, [], ◌++◌, ◌∷◌, append_assoc, append-nil, map}
use mathlib.Core.Logic.{◌≢◌}
use Rattle.std.proofs.Common.{None, Option, Some}
use Rattle.std.proofs.lemmas.List.{get_or-drop}
use mathlib.Core.Path.{◌∙◌, ◌≡◌, ap, fun_ext, refl, subst, sym}
use native.Mathlib.Omega.{arith}
use Rattle.base.proofs.Lists.{get_d-map-in, listed, listed-eq, listed-last}
use Rattle.base.proofs.Tests.{and_left, bool_cases, eq-cases, eq-eqb, eqb-eq, ne_eqb, or_cases, tests}
use Rattle.blocks.specs.Entries.{is_named, nth, zero_entry}
use Rattle.blocks.specs.Owners.{owner_of, owner_ok}
use Rattle.blocks.specs.declared.Entry.{Entry}
use Rattle.names.proofs.Entries.OwnerSteps.{unfold-entry, unfold-name}
use Rattle.names.proofs.Entries.OwnersByNumber.{owners-of-numbers}
use Rattle.names.proofs.InPasses.MovedUnfolding.{unfold-ext, unfold-out}
use Rattle.names.specs.NamedForm.{named_form_ok}
use Rattle.names.specs.Promise.{FormsOk, OwnersOk}
use Rattle.names.specs.Unfold.{contents, noted, owned_by, relocate, shifted, unfold_from, unfolded}
use Rattle.names.specs.code.Passes.{kept_by, name_again}
use Rattle.unfolding.proofs.Alike.{alike-read}
use Rattle.unfolding.specs.code.Replacing.{NamesFew, Passing, StandsAt, Stood, again}
use Rattle.unfolding.specs.code.Rows.{entry_of_row}
use Rattle.unfolding.specs.declared.contents.Place.{Place}

-- ---- a name that stands for nothing goes, any other stays

module _ (S : ℕ → ℕ) (e : Entry) where
  pub kept-none : S e.name ≡ 0 → kept_by S e.name ≡ []
  unfolding kept_by
  kept-none z = rw (eq-eqb z)

  pub kept-itself : S e.name ≢ 0 → kept_by S e.name ≡ name_again e.name
  unfolding kept_by
  kept-itself z = rw (ne_eqb z)

-- ---- the pass

-- after `set`, the table is the old one with one value more
tabled-more : (t : List ℕ) (k v : ℕ) → k < length t → (λ j. get_or (set t k v) j 0) ≡ noted (λ j. get_or t j 0) k v
tabled-more t k v l =
    fun_ext (λ j. eq-cases j k
    (λ q. rw (q, eq-eqb {m = k} {n = k} refl) (get_or-set_same t k v 0 l))
    (λ q. rw (ne_eqb q) (get_or-set_other t k j v 0 q)))

-- entries that are written after m, where o stands for the top
pub unfold-at : (T : ℕ → List Entry) (ν : ℕ → ℕ) (m o : ℕ) (es : List Entry) → ν 0 ≡ o → OwnersOk es
    → unfold_from T ν 1 m es ≡ map (relocate m o) (unfolded T es)
unfolding unfolded
unfold-at T ν m o es z w =
    let s : m ≡ m + 0 = omega arith in
    unfold-ext T _ ν (λ j. shifted m o j) 1 m es (owners-of-numbers es w) (λ j g. let q : j ≡ 0 = eqb-eq g in rw q z)
    ∙ ap (λ (i : ℕ). unfold_from T (λ j. shifted m o j) 1 i es) s
    ∙ unfold-out T m o (λ j. j) 1 0 es

-- each entry gives one at least, where each name becomes some
unfold-least : (T : ℕ → List Entry) (ν : ℕ → ℕ) (k m : ℕ) (es : List Entry)
    → ((j : ℕ) → j < length es → is_named (get_or es j zero_entry) ≡ true → 1 ≤ length (T (get_or es j zero_entry).name))
    → length es ≤ length (unfold_from T ν k m es)
unfolding unfold_from
unfold-least T ν k m [] h = omega arith
unfold-least T ν k m (e ∷ es) h =
    bool_cases (is_named e)
    (λ q.
    let xs = map (relocate m (ν e.owner)) (T e.name) in
    let ys = unfold_from T ν (suc k) (m + length (T e.name)) es in
    let ih = unfold-least T ν (suc k) (m + length (T e.name)) es (λ j l. h (suc j) (omega arith)) in
    let one = h 0 (omega arith) q in
    rw q (omega (arith, ih, one, length-append xs ys, length-map (T e.name) (relocate m (ν e.owner)))))
    (λ q. let ih = unfold-least T (noted ν k (suc m)) (suc k) (suc m) es (λ j l. h (suc j) (omega arith)) in rw q (omega (arith, ih)))

module _ {T : ℕ → List Entry} {es : List Entry} where
  -- before the first entry only the top owns
  pub pass-starts : (number : List ℕ) → get_or number 0 0 ≡ 0 → OwnersOk es → Passing T es (unfolded T es) number 0 []
  unfolding unfolded
  pass-starts number z w =
      record { all = sym (unfold-ext T _ (λ j. j) (λ j. get_or number j 0) 1 0 es (owners-of-numbers es w) (λ j o. let q : j ≡ 0 = eqb-eq o in rw q (sym z))) }

  -- or what the top stands for
  pub pass-starts-at : (number : List ℕ) (o : ℕ) (out : List Entry) → get_or number 0 0 ≡ o → OwnersOk es
      → Passing T es (out ++ map (relocate (length out) o) (unfolded T es)) number 0 out
  pass-starts-at number o out z w = record { all = ap (λ (l : List Entry). out ++ l) (unfold-at T (λ j. get_or number j 0) (length out) o es z w) }

  module _ {whole : List Entry} {number : List ℕ} {i : ℕ} {out : List Entry} (P : Passing T es whole number i out) where
    -- no more is written than all
    pub passed-within : length out ≤ length whole
    passed-within =
        let parts = length-append out (unfold_from T (λ j. get_or number j 0) (suc i) (length out) (drop i es)) in
        omega (arith, ap length P.all)

    -- and one at least for each entry that is left, where each name becomes some
    pub passed-least : ((j : ℕ) → i ≤ j → j < length es → is_named (get_or es j zero_entry) ≡ true → 1 ≤ length (T (get_or es j zero_entry).name))
        → length out + (length es - i) ≤ length whole
    passed-least h =
        let r = unfold-least T (λ j. get_or number j 0) (suc i) (length out) (drop i es)
        (λ j l. subst (λ (e : Entry). is_named e ≡ true → 1 ≤ length (T e.name)) (sym (get_or-drop i es j zero_entry))
        (h (i + j) (omega arith) (omega (arith, l, length-drop i es)))) in
        omega (arith, r, length-drop i es, ap length P.all, length-append out (unfold_from T (λ j. get_or number j 0) (suc i) (length out) (drop i es)))

    -- after the last entry
    pub pass-ends : length es ≤ i → out ≡ whole
    unfolding unfold_from
    pass-ends h =
        let z = drop_of_length-le es h in
        sym (append-nil out) ∙ rw z at P.all

    module _ {e : Entry} (next : drop i es ≡ e ∷ drop (suc i) es) where
      -- a name
      pub pass-name : {xs ys : List Entry} → is_named e ≡ true
          → xs ≡ map (relocate (length out) (get_or number e.owner 0)) (T e.name) → ys ≡ out ++ xs → Passing T es whole number (i + 1) ys
      pass-name {xs} {ys} q x y =
          let s : i + 1 ≡ suc i = omega arith in
          let m = length out in
          let n : length (out ++ xs) ≡ m + length (T e.name) = length-append out xs ∙ rw (x, length-map (T e.name) (relocate m (get_or number e.owner 0))) in
          let here = unfold-name T (λ j. get_or number j 0) (suc i) m e (drop (suc i) es) q in
          let all : out ++ unfold_from T (λ j. get_or number j 0) (suc i) m (e ∷ drop (suc i) es) ≡ whole = rw next at P.all in
          record { all = rw (s, y, n, x) (append_assoc out _ _ ∙ ap (λ (l : List Entry). out ++ l) (sym here) ∙ all) }

      -- any other entry
      pub pass-entry : {r : Entry} {ys : List Entry} {n : ℕ} → is_named e ≡ false → i + 1 < length number → r ≡ owned_by (get_or number e.owner 0) e
          → ys ≡ out ++ (r ∷ []) → n ≡ length ys → Passing T es whole (set number (i + 1) n) (i + 1) ys
      pass-entry {r} {ys} {n} q l x y z =
          let s : i + 1 ≡ suc i = omega arith in
          let m = length out in
          let t : length (out ++ (r ∷ [])) ≡ suc m = length-append out (r ∷ []) ∙ omega arith in
          let w : n ≡ suc m = z ∙ ap length y ∙ t in
          let here = unfold-entry T (λ j. get_or number j 0) (suc i) m e (drop (suc i) es) q in
          let all : out ++ unfold_from T (λ j. get_or number j 0) (suc i) m (e ∷ drop (suc i) es) ≡ whole = rw next at P.all in
          record { all = rw (tabled-more number (i + 1) n l, s, w, y, t, x) (append_assoc out _ _ ∙ ap (λ (l : List Entry). out ++ l) (sym here) ∙ all) }

-- there is room for what is written next
module _ {T : ℕ → List Entry} {es whole : List Entry} {number : List ℕ} {i : ℕ} {out : List Entry} (P : Passing T es whole number i out) {e : Entry}
    (next : drop i es ≡ e ∷ drop (suc i) es) where
  pub room-name : is_named e ≡ true → length out + length (T e.name) ≤ length whole
  room-name q =
      let xs = map (relocate (length out) (get_or number e.owner 0)) (T e.name) in
      let w = passed-within (pass-name P next {xs = xs} q refl refl) in
      omega (arith, w, length-append out xs, length-map (T e.name) (relocate (length out) (get_or number e.owner 0)))

  -- and for those after it
  pub room-opened : is_named e ≡ true
      → ((j : ℕ) → i ≤ j → j < length es → is_named (get_or es j zero_entry) ≡ true → 1 ≤ length (T (get_or es j zero_entry).name))
      → length out + length (T e.name) + (length es - (i + 1)) ≤ length whole
  room-opened q h =
      let xs = map (relocate (length out) (get_or number e.owner 0)) (T e.name) in
      let w = passed-least (pass-name P next {xs = xs} q refl refl) (λ j lo hi. h j (omega arith) hi) in
      omega (arith, w, length-append out xs, length-map (T e.name) (relocate (length out) (get_or number e.owner 0)))

  pub room-entry : is_named e ≡ false → length out < length whole
  room-entry q =
      let here = unfold-entry T (λ j. get_or number j 0) (suc i) (length out) e (drop (suc i) es) q in
      let all : out ++ unfold_from T (λ j. get_or number j 0) (suc i) (length out) (e ∷ drop (suc i) es) ≡ whole = rw next at P.all in
      omega (arith, ap length all, ap length here, length-append out (unfold_from T (λ j. get_or number j 0) (suc i) (length out) (e ∷ drop (suc i) es)))

-- ---- an entry that is read

-- from a table
pub entry_read : (numbers : List ℕ) {es : List Entry} → map entry_of_row numbers ≡ es → (i : ℕ) {e : Entry} → i < length numbers → e ≡ entry_of_row (get_or numbers i 0)
    → e ≡ nth es (i + 1)
unfolding nth
entry_read numbers m i l q = let s : i + 1 ≡ suc i = omega arith in rw (s, ← m) (q ∙ sym (get_d-map-in entry_of_row numbers 0 zero_entry i l))

module _ (es : List Entry) (i : ℕ) {e : Entry} (l : i < length es) (q : e ≡ nth es (i + 1)) where
  -- what is left of them from number i on: that entry, and those after it
  pub entry_next : drop i es ≡ e ∷ drop (suc i) es
  unfolding nth
  entry_next = let s : i + 1 ≡ suc i = omega arith in let r : e ≡ get_or es i zero_entry = rw s at q in drop-cons es i zero_entry l ∙ rw r

  pub entry-form : FormsOk es → named_form_ok e ≡ true
  entry-form f = rw q (f (i + 1) (omega arith) (omega arith))

  pub entry-few : NamesFew es → is_named e ≡ true → e.name ≤ 64
  entry-few f = rw q (f (i + 1) (omega arith) (omega arith))

  -- its owner stands earlier
  pub entry-owner : OwnersOk es → e.owner ≤ i
  unfolding owner_ok owner_of
  entry-owner w =
      let o : owner_of es (i + 1) ≡ e.owner = ap (λ (x : Entry). x.owner) (sym q) in
      or_cases (eqb (owner_of es (i + 1)) 0) (ltb (owner_of es (i + 1)) (i + 1) && eqb (nth es (owner_of es (i + 1))).kind 5) (w (i + 1) (omega arith) (omega arith))
      (λ z. omega tests)
      (λ z. let y = and_left (ltb (owner_of es (i + 1)) (i + 1)) (eqb (nth es (owner_of es (i + 1))).kind 5) z in omega tests)

-- ---- contents that are put in again

-- a number of an owner
pub again-top : (q p m o : ℕ) → q ≤ p → o ≡ cond (leb q p) o (m + (q - p))
again-top q p m o h = let z : leb q p ≡ true = omega tests in rw z

pub again-later : (q p m o : ℕ) {r : ℕ} → p < q → r ≡ m + (q - p) → r ≡ cond (leb q p) o (m + (q - p))
again-later q p m o h e = let z : leb q p ≡ false = omega tests in rw z e

-- an entry with it
pub again-entry : (p m o : ℕ) (e : Entry) {r : Entry} {q : ℕ} → q ≡ cond (leb e.owner p) o (m + (e.owner - p)) → r ≡ owned_by q e → r ≡ again p m o e
unfolding again
again-entry p m o e h g = g ∙ rw h

-- is as if it were put in there first
again-moved : (p t m o : ℕ) → t ≤ p → (e : Entry) → again p m o (relocate p t e) ≡ relocate m o e
unfolding again
again-moved p t m o h e = ap (λ (q : ℕ). owned_by q e) (by e.owner)
  where
    by : (q : ℕ) → cond (leb (shifted p t q) p) o (m + (shifted p t q - p)) ≡ shifted m o q
    by zero = let z : leb t p ≡ true = omega tests in rw z
    by (suc q) =
        let z : leb (p + suc q) p ≡ false = omega tests in
        let s : m + (p + suc q - p) ≡ m + suc q = omega arith in
        rw (z, s)

-- an entry that is read from a table that grows
pub grown-entry : (es xs : List Entry) (i : ℕ) {ys : List Entry} {e : Entry} → i < length es → ys ≡ es ++ xs → e ≡ get_or ys i zero_entry → e ≡ get_or es i zero_entry
grown-entry es xs i l g q = q ∙ ap (λ (ys : List Entry). get_or ys i zero_entry) g ∙ get_or-append es xs zero_entry i l

-- one entry more of those put in again
pub again-more : (f : ℕ → Entry) (p j : ℕ) (ws : List Entry) {xs ys : List Entry} {r : Entry} → xs ≡ ws ++ listed f p j → r ≡ f (p + j) → ys ≡ xs ++ (r ∷ [])
    → ys ≡ ws ++ listed f p (j + 1)
again-more f p j ws g h y =
    let s : j + 1 ≡ suc j = omega arith in y ∙ rw (g, h, s, listed-last f p j) (append_assoc ws _ _)

module _ {inner : List Entry} {p k : ℕ} {es : List Entry} (S : StandsAt inner p k es) where
  -- their owners
  pub stands-owners : ((n : ℕ) → 1 ≤ n → n ≤ length inner → (nth inner n).owner ≤ length inner) → (j : ℕ) → j < k → (get_or es (p + j) zero_entry).owner ≤ p + k
  unfolding nth
  stands-owners w j l =
      let o = w (suc j) (omega arith) (omega (arith, S.long)) in
      let b = shifted-bound p S.top (get_or inner j zero_entry).owner S.low in
      omega (arith, S.long, ap (λ (x : Entry). x.owner) (S.there j l))
    where
      shifted-bound : (p t q : ℕ) → t ≤ p → shifted p t q ≤ p + q
      shifted-bound p t zero h = omega arith
      shifted-bound p t (suc q) h = omega arith

  -- put in again
  pub stands-again : (m o : ℕ) → listed (λ i. again p m o (get_or es i zero_entry)) p k ≡ map (relocate m o) inner
  stands-again m o =
      let f : ℕ → Entry = λ i. again p m o (get_or es i zero_entry) in
      let size = length-map inner (relocate m o) in
      let e : k ≡ length (map (relocate m o) inner) = omega (arith, S.long) in
      ap (listed f p) e
      ∙ listed-eq f p zero_entry (map (relocate m o) inner)
      (λ j l.
      let b : j < k = omega arith in
      ap (again p m o) (S.there j b) ∙ again-moved p S.top m o S.low (get_or inner j zero_entry)
      ∙ sym (get_d-map-in (relocate m o) inner zero_entry zero_entry j (omega (arith, S.long))))

  -- where more is written behind
  stands-more : (xs : List Entry) → StandsAt inner p k (es ++ xs)
  stands-more xs = record {
    top = S.top;
    low = S.low;
    long = S.long;
    within = omega (arith, S.within, length-append es xs);
    there = λ j l. get_or-append es xs zero_entry (p + j) (omega (arith, S.within)) ∙ S.there j l;
  }

-- contents that were just put in
stands-new : (inner es : List Entry) (o : ℕ) → o ≤ length es → StandsAt inner (length es) (length inner) (es ++ map (relocate (length es) o) inner)
stands-new inner es o h = record {
  top = o;
  low = h;
  long = refl;
  within = omega (arith, length-append es (map (relocate (length es) o) inner), length-map inner (relocate (length es) o));
  there = λ j l. get_or-append-add es (map (relocate (length es) o) inner) j zero_entry ∙ get_d-map-in (relocate (length es) o) inner zero_entry zero_entry j l;
}

-- where they stand then
pub stands-put : (inner out : List Entry) (o : ℕ) → o ≤ length out → {put : List Entry} → put ≡ out ++ map (relocate (length out) o) inner
    → {m k : ℕ} → m ≡ length out → k ≡ length put - m → StandsAt inner m k put
stands-put inner out o l {put} pe {m} {k} me ke =
    let n : k ≡ length inner = omega (arith, ap length pe, length-append out (map (relocate (length out) o) inner), length-map inner (relocate (length out) o)) in
    rw (n, me, pe) (stands-new inner out o l)

module _ {K : List (List Entry)} where
  -- before anything is put in
  pub stood-none : {es : List Entry} → Stood K (replicate 65 None) es
  stood-none = record { put = λ n p q. let z : None ≡ Some p = sym (alike-read None 65 n) ∙ q in cc }

  module _ {places : List (Option Place)} {es : List Entry} (S : Stood K places es) where
    pub stood-more : (xs : List Entry) {ys : List Entry} → ys ≡ es ++ xs → Stood K places ys
    stood-more xs e = record { put = λ n p h. rw e (stands-more (S.put n p h) xs) }

    -- what one more name stands for
    pub stood-set : (x : ℕ) {p : Place} → x < length places → StandsAt (contents K x) p.first p.count es → Stood K (set places x (Some p)) es
    stood-set x {p} b N =
        record {
          put = λ n r h. eq-cases n x
              (λ q.
              let f : Some r ≡ Some p = sym h ∙ ap (λ (i : ℕ). get_or (set places x (Some p)) i None) q ∙ get_or-set_same places x (Some p) None b in
              let g : r ≡ p = cc in
              rw (g, q) N)
              (λ q. S.put n r (sym (get_or-set_other places x n (Some p) None q) ∙ h));
        }

-- ---- numbers in the table

pub bound-set : (t : List ℕ) (k v : ℕ) {m n : ℕ} → k < length t → ((j : ℕ) → get_or t j 0 ≤ m) → m ≤ n → v ≤ n → (j : ℕ) → get_or (set t k v) j 0 ≤ n
bound-set t k v l h a b j =
    eq-cases j k
    (λ q. let e : get_or (set t k v) j 0 ≡ v = rw q (get_or-set_same t k v 0 l) in omega arith)
    (λ q. let e : get_or (set t k v) j 0 ≡ get_or t j 0 = get_or-set_other t k j v 0 q in omega (arith, h j))

-- owners that are allowed stand within
pub owners-within : (es : List Entry) → OwnersOk es → (n : ℕ) → 1 ≤ n → n ≤ length es → (nth es n).owner ≤ length es
owners-within es w (suc i) lo hi =
    let s : i + 1 ≡ suc i = omega arith in
    let o = entry-owner es i {e = nth es (suc i)} (omega arith) (ap (nth es) (sym s)) w in
    omega (arith, o)
owners-within es w zero lo hi = absurd (omega arith)
