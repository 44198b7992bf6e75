-- The mates of 'every' entries, as they are found and as those of empty places are taken away.
-- Assumes nothing.
use Prim.Native.Nat.{◌+◌, ◌-◌, ◌<◌, ◌≤◌, suc, zero, ℕ}
use lib.Dec.{eqb}
use lib.ListN.{get_or, length, length-map, set}
use lib.Seq.{get_or-set_other, get_or-set_same}
use mathlib.Core.Bool.{◌&&◌, ◌||◌, cond, false, not, true}
use mathlib.Core.List.{List}
use mathlib.Core.Logic.{◌≢◌}
use mathlib.Core.Path.{◌∙◌, ◌≡◌, ap, refl, sym}
use native.Mathlib.Omega.{arith}
use Rattle.base.proofs.Tests.{and_left, bool_cases, eq-cases, eq-eqb, eqb-eq, false_of_not, ne_eqb, true_of_not}
use Rattle.blocks.proofs.Refusing.Legal.{owner-earlier}
use Rattle.blocks.specs.Entries.{nth}
use Rattle.blocks.specs.Owners.{owner_of}
use Rattle.blocks.specs.declared.Entry.{Entry}
use Rattle.logic.specs.Canonical.{Canonical}
use Rattle.logic.specs.Normal.{is_end}
use Rattle.meaning.proofs.Descriptions.Lookups.{match-first}
use Rattle.meaning.specs.Description.{place_of}
use Rattle.meaning.specs.Lookup.{entry_for}
use Rattle.narrowest.proofs.form.SeekLaws.{nth-row}
use Rattle.narrowest.proofs.mates.SaysLaws.{says-right}
use Rattle.narrowest.proofs.meant.BelowLaws.{lawful}
use Rattle.narrowest.proofs.meant.EveryLaws.{Below, every-some}
use Rattle.narrowest.specs.code.Forms.{Held, entries_in, key_in}
use Rattle.narrowest.specs.code.Mates.{Good, Joinable, Mated, Settled, joint_place, mate_at, says_any}
use Rattle.pairs.specs.Pairs.{under}
use Rattle.unfolding.specs.code.Rows.{entry_of_row}

-- ---- the mates, one after the other

module _ {a : List ℕ} (HA : Held a) (b : List ℕ) where
  abbrev one : List Entry
  one = entries_in a

  abbrev two : List Entry
  two = entries_in b

  pub owner-before : (m : ℕ) → 1 ≤ m → m ≤ length one → (nth one m).owner < m
  unfolding owner_of
  owner-before m lo hi = owner-earlier HA.legal m lo hi

  -- they depend on that of the owner alone
  same-mate : (M N : List ℕ) (m : ℕ) → get_or M (nth one m).owner 0 ≡ get_or N (nth one m).owner 0 → mate_at one two M m ≡ mate_at one two N m
  same-mate M N m e = rw e refl

  -- an entry by its number
  pub entry-at : (m : ℕ) → 1 ≤ m → m ≤ length a → entry_of_row (get_or a (m - 1) 0) ≡ nth one m
  entry-at zero lo hi = absurd (omega arith)
  entry-at (suc p) lo hi = let s : suc p - 1 ≡ p = omega arith in rw s (sym (nth-row a p (omega arith)))

  module _ (M : List ℕ) (m : ℕ) {e : Entry} (i : e ≡ nth one m) where
    pub mate-other : e.kind ≢ 5 → 0 ≡ mate_at one two M m
    mate-other z = let z' = rw i at z in rw (ne_eqb z') refl

    pub mate-lost : e.kind ≡ 5 → e.owner ≢ 0 → get_or M e.owner 0 ≡ 0 → 0 ≡ mate_at one two M m
    mate-lost k z y =
        let k' = rw i at k in
        let z' = rw i at z in
        let y' = rw i at y in
        rw (eq-eqb k', ne_eqb z', eq-eqb y') refl

    pub mate-top : {r : ℕ} → e.kind ≡ 5 → e.owner ≡ 0 → r ≡ entry_for two (get_or M e.owner 0) 5 e.name → r ≡ mate_at one two M m
    mate-top k z h =
        let k' = rw i at k in
        let z' = rw i at z in
        let h' = rw i at h in
        h' ∙ rw (eq-eqb k', eq-eqb z') refl

    pub mate-found : {r : ℕ} → e.kind ≡ 5 → get_or M e.owner 0 ≢ 0 → r ≡ entry_for two (get_or M e.owner 0) 5 e.name → r ≡ mate_at one two M m
    mate-found k y h =
        let k' = rw i at k in
        let y' = rw i at y in
        let h' = rw i at h in
        h' ∙ rw (eq-eqb k', ne_eqb y') (bool_cases (eqb (nth one m).owner 0) (λ x. rw x refl) (λ x. rw x refl))

  pub mated-none : {M : List ℕ} → get_or M 0 0 ≡ 0 → Mated one two 0 M
  mated-none e = record { top = e; each = λ m lo hi. absurd (omega arith) }

  pub mated-next : {M : List ℕ} {n v : ℕ} → Mated one two n M → n < length a → n + 1 < length M → v ≡ mate_at one two M (n + 1) → Mated one two (n + 1) (set M (n + 1) v)
  mated-next {M} {n} {v} h l w e =
      let size = length-map a entry_of_row in
      record {
        top = get_or-set_other M (n + 1) 0 v 0 (λ q. omega arith) ∙ h.top;
        each = λ m lo hi.
            let o = owner-before m lo (omega (arith, size, l)) in
            let same = same-mate M (set M (n + 1) v) m (sym (get_or-set_other M (n + 1) (nth one m).owner v 0 (λ q. omega (arith, o)))) in
            eq-cases m (n + 1)
            (λ z. ap (λ (i : ℕ). get_or (set M (n + 1) v) i 0) z ∙ get_or-set_same M (n + 1) v 0 w ∙ e ∙ ap (mate_at one two M) (sym z) ∙ same)
            (λ z. get_or-set_other M (n + 1) m v 0 z ∙ h.each m lo (omega (arith, z)) ∙ same);
      }

-- ---- an entry is found by its own fields

pub own-fields : {a : List ℕ} → Held a → (m : ℕ) → 1 ≤ m → m ≤ length (entries_in a)
    → entry_for (entries_in a) (nth (entries_in a) m).owner (nth (entries_in a) m).kind (nth (entries_in a) m).name ≡ m
unfolding key_in
own-fields {a} HA zero lo hi = absurd (omega arith)
own-fields {a} HA (suc p) lo hi =
    let es = entries_in a in
    let size = length-map a entry_of_row in
    match-first es (nth es (suc p)).owner (nth es (suc p)).kind (nth es (suc p)).name (suc p) lo hi refl refl refl (earlier es size)
  where
    earlier : (es : List Entry) → length es ≡ length a → (i : ℕ) → 1 ≤ i → i < suc p → (nth (entries_in a) i).owner ≡ (nth (entries_in a) (suc p)).owner
        → (nth (entries_in a) i).kind ≡ (nth (entries_in a) (suc p)).kind → (nth (entries_in a) i).name ≡ (nth (entries_in a) (suc p)).name → ⊥
    earlier es size zero l m x y z = absurd (omega arith)
    earlier es size (suc i) l m x y z =
        let s = length-map a entry_of_row in
        let e = nth-row a i (omega (arith, s)) in
        let f = nth-row a p (omega (arith, s)) in
        let up = HA.rising i p (omega arith) (omega (arith, s)) in
        let x' = rw (e, f) at x in
        let y' = rw (e, f) at y in
        let z' = rw (e, f) at z in
        absurd (omega (arith, up, x', y', z'))

-- ---- a place and its mate

module _ {P a b : List ℕ} (J : Joinable P a b) (HA : Held a) (HB : Held b) {M : List ℕ} (m : Mated (entries_in a) (entries_in b) (length (entries_in a)) M) where
  abbrev es : List Entry
  es = entries_in a

  abbrev fs : List Entry
  fs = entries_in b

  -- whose owner has a mate
  mate-good : (n : ℕ) → 1 ≤ n → n ≤ length es → get_or M n 0 ≢ 0 → Canonical (under P) (place_of es (nth es n).owner) → Canonical (under P) (place_of fs (get_or M (nth es n).owner 0))
      → Good P es fs M n (get_or M n 0)
  mate-good n lo hi z c d =
      let e = nth es n in
      let i = m.each n lo hi in
      bool_cases (eqb e.kind 5 && (eqb e.owner 0 || not (eqb (get_or M e.owner 0) 0)))
      (λ q.
      let k : e.kind ≡ 5 = eqb-eq (and_left (eqb e.kind 5) _ q) in
      let f : get_or M n 0 ≡ entry_for fs (get_or M e.owner 0) 5 e.name = i ∙ rw q refl in
      let own : entry_for es e.owner 5 e.name ≡ n = rw k at (own-fields HA n lo hi) in
      let A : Below (under P) es e.owner e.name n = every-some (lawful J) HA.legal e.owner e.name c own (λ y. absurd (omega arith)) in
      let B : Below (under P) fs (get_or M e.owner 0) e.name (get_or M n 0) = every-some (lawful J) HB.legal (get_or M e.owner 0) e.name d (sym f) z in
      record { low = hi; low-second = B.within; first = A.normal; second = B.normal; mate = λ x y. refl })
      (λ q. absurd (z (i ∙ rw q refl)))

  mates-good : (f n : ℕ) → n ≤ f → 1 ≤ n → n ≤ length es → get_or M n 0 ≢ 0 → Good P es fs M n (get_or M n 0)
  mates-good zero n l lo hi z = absurd (omega arith)
  mates-good (suc f) n l lo hi z =
      let e = nth es n in
      let o = owner-before HA b n lo hi in
      eq-cases e.owner 0
      (λ q. mate-good n lo hi z (rw q J.first) (rw (q, m.top) J.second))
      (λ q.
      eq-cases (get_or M e.owner 0) 0
      (λ y. absurd (z (m.each n lo hi ∙ rw (ne_eqb q, eq-eqb y) (bool_cases (eqb e.kind 5) (λ x. rw x refl) (λ x. rw x refl)))))
      (λ y.
      let g = mates-good f e.owner (omega (arith, o)) (omega (arith, q)) (omega (arith, o)) y in
      mate-good n lo hi z g.first g.second))

  pub mated-good : (n : ℕ) → 1 ≤ n → n ≤ length es → get_or M n 0 ≢ 0 → Good P es fs M n (get_or M n 0)
  mated-good n lo hi z = mates-good n n (omega arith) lo hi z

  -- ---- those of empty places are taken away, from the last to the first

  pub settled-none : Settled P es fs (length a) M M
  settled-none = record { top = m.top; before = λ n l. refl; after = λ n l h. absurd (omega (arith, length-map a entry_of_row)) }

  module _ {F : List ℕ} {n : ℕ} (S : Settled P es fs n M F) (lo : 1 ≤ n) (hi : n ≤ length a) where
    size : length es ≡ length a
    size = length-map a entry_of_row

    -- one more whose value is right
    settled-as : (G : List ℕ) → ((i : ℕ) → i ≢ n → get_or G i 0 ≡ get_or F i 0) → get_or G n 0 ≡ cond (is_end (joint_place P es fs n (get_or M n 0))) 0 (get_or M n 0)
        → Settled P es fs (n - 1) M G
    settled-as G same e =
        record {
          top = same 0 (λ q. absurd (omega arith)) ∙ S.top;
          before = λ i l. same i (λ q. absurd (omega arith)) ∙ S.before i (omega arith);
          after = λ i l h. eq-cases i n
              (λ q. rw q e)
              (λ q. same i q ∙ S.after i (omega (arith, q)) h);
        }

    pub settled-unmated : get_or F n 0 ≡ 0 → Settled P es fs (n - 1) M F
    settled-unmated z =
        let y : get_or M n 0 ≡ 0 = sym (S.before n (omega arith)) ∙ z in
        settled-as F (λ i q. refl) (z ∙ rw y (bool_cases (is_end (joint_place P es fs n 0)) (λ x. rw x refl) (λ x. rw x refl)))

    says-joined : get_or F n 0 ≢ 0 → says_any P es fs F n (get_or F n 0) ≡ not (is_end (joint_place P es fs n (get_or M n 0)))
    says-joined z =
        let i = S.before n (omega arith) in
        let y : get_or M n 0 ≢ 0 = λ q. z (i ∙ q) in
        let x : n ≢ 0 = λ q. absurd (omega arith) in
        rw i (says-right J HA HB m S (mated-good n lo (omega (arith, size)) y) (omega arith) (rw (ne_eqb x, ne_eqb y) refl) (rw (ne_eqb x) refl))

    pub settled-said : get_or F n 0 ≢ 0 → says_any P es fs F n (get_or F n 0) ≡ true → Settled P es fs (n - 1) M F
    settled-said z e =
        let q = false_of_not _ (sym (says-joined z) ∙ e) in
        settled-as F (λ i w. refl) (S.before n (omega arith) ∙ rw q refl)

    pub settled-dropped : get_or F n 0 ≢ 0 → says_any P es fs F n (get_or F n 0) ≡ false → n < length F → Settled P es fs (n - 1) M (set F n 0)
    settled-dropped z e l =
        let q = true_of_not _ (sym (says-joined z) ∙ e) in
        settled-as (set F n 0) (λ i w. get_or-set_other F n i 0 0 w) (get_or-set_same F n 0 0 l ∙ rw q refl)
