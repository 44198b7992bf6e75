-- Laws of marking owners from the last entry to the first.
-- Assumes nothing.
use Prim.Native.Nat.{◌+◌, ◌-◌, ◌<◌, ◌≤◌, suc, zero, ℕ}
use lib.Dec.{eqb}
use lib.ListN.{drop, get_or, length, set}
use lib.Seq.{get_or-set_other, get_or-set_same}
use mathlib.Core.Bool.{Bool, ◌&&◌, ◌||◌, false≢true, true}
use mathlib.Core.List.{List, [], ◌++◌, ◌∷◌}
use mathlib.Core.Logic.{◌≢◌}
use mathlib.Core.Path.{◌∙◌, ◌≡◌, ap, refl, sym}
use native.Mathlib.Omega.{arith}
use Rattle.base.proofs.Tests.{and_left, and_right, eq-cases, eq-eqb, eqb-eq, iff-eq, ne_eqb, or_cases, or_left, or_right}
use Rattle.base.proofs.Lists.{length-listed, listed, listed-last}
use Rattle.base.proofs.StoresLaws.{stored-front, stored_one, stored-then}
use Rattle.base.specs.Range.{bit}
use Rattle.base.specs.Stores.{stored}
use Rattle.blocks.proofs.Refusing.EntryLaws.{of-nth}
use Rattle.blocks.proofs.Refusing.Legal.{owner-earlier}
use Rattle.blocks.specs.Entries.{entries_of, entry_of}
use Rattle.earning.specs.Answer.{marked_bytes}
use Rattle.blocks.specs.Owners.{owner_of}
use Rattle.blocks.specs.Promise.{Legal}
use Rattle.blocks.specs.declared.Entry.{Entry}
use Rattle.blocks.specs.declared.Schema.TheVariants.{Description}
use Rattle.narrow.proofs.Keeping.Earning.{marks-owner}
use Rattle.narrow.specs.Keeping.{above, marked, owns_kept}

-- a table of marks where the entries past m have been gone over
pub record Marking (es : List Entry) (K : ℕ → Bool) (t : List Bool) (m : ℕ) : Type 0 where
  pub sound : (j : ℕ) → 1 ≤ j → j ≤ length es → get_or t j true ≡ true → marked K es j ≡ true
  pub keeps : (j : ℕ) → K j ≡ true → get_or t j true ≡ true
  pub done : (i : ℕ) → m < i → i ≤ length es → marked K es i ≡ true → owner_of es i ≢ 0 → get_or t (owner_of es i) true ≡ true

module _ (es : List Entry) (L : Legal Description es) (K : ℕ → Bool) where
  -- a marked entry that entry j owns
  record Child (j : ℕ) : Type 0 where
    pub at : ℕ
    pub from : 1 ≤ at
    pub to : at ≤ length es
    pub owner : owner_of es at ≡ j
    pub marks : marked K es at ≡ true

  on-chain : (f j k : ℕ) → 1 ≤ k → k ≤ length es → marked K es k ≡ true → above es f j k ≡ true → Child j
  unfolding above
  on-chain zero j k lo hi m e = absurd (false≢true e)
  on-chain (suc f) j k lo hi m e =
      eq-cases (owner_of es k) 0
      (λ z. absurd (false≢true (rw (eq-eqb z) at e)))
      (λ z. or_cases (eqb (owner_of es k) j) (above es f j (owner_of es k)) (rw (ne_eqb z) at e)
      (λ q. record { at = k; from = lo; to = hi; owner = eqb-eq q; marks = m })
      (λ q. on-chain f j (owner_of es k) (omega arith) (omega (arith, owner-earlier L k lo hi)) (marks-owner es L K k lo hi m z) q))

  owned-child : (j m : ℕ) → m ≤ length es → owns_kept K es j m ≡ true → Child j
  unfolding owns_kept
  owned-child j zero h e = absurd (false≢true e)
  owned-child j (suc m) h e =
      or_cases (K (suc m) && above es (suc m) j (suc m)) (owns_kept K es j m) e
      (λ q. on-chain (suc m) j (suc m) (omega arith) h (or_left (owns_kept K es (suc m) (length es)) (and_left (K (suc m)) (above es (suc m) j (suc m)) q)) (and_right (K (suc m)) (above es (suc m) j (suc m)) q))
      (λ q. owned-child j m (omega arith) q)

  -- what is marked past m stays so
  pub marking-right : {t : List Bool} {m : ℕ} → Marking es K t m → (j : ℕ) → 1 ≤ j → m ≤ j → j ≤ length es → get_or t j true ≡ marked K es j
  marking-right {t} {m} M j lo h hi =
      iff-eq (λ e. M.sound j lo hi e)
      (λ e. or_cases (K j) (owns_kept K es j (length es)) e (λ q. M.keeps j q)
      (λ q.
      let c = owned-child j (length es) (omega arith) q in
      let o = c.owner in
      ap (λ (i : ℕ). get_or t i true) (sym o) ∙ M.done c.at (omega (arith, owner-earlier L c.at c.from c.to, o)) c.to c.marks (λ z. omega (arith, o))))

  -- one entry more is gone over
  pub marking-more : {t : List Bool} {m o : ℕ} {a b : Bool} → Marking es K t m → 1 ≤ m → m ≤ length es → o ≡ owner_of es m → o < length t
      → a ≡ get_or t o true → b ≡ get_or t m true → Marking es K (set t o (a || b)) (m - 1)
  marking-more {t} {m} {o} {a} {b} M lo hi own within p q =
      let right : get_or t m true ≡ marked K es m = marking-right M m lo (omega arith) hi in
      let here : get_or (set t o (a || b)) o true ≡ (a || b) = get_or-set_same t o (a || b) true within in
      record {
        sound = λ j l h e. eq-cases j o
            (λ z. or_cases a b (sym here ∙ ap (λ (i : ℕ). get_or (set t o (a || b)) i true) (sym z) ∙ e)
            (λ w. M.sound j l h (ap (λ (i : ℕ). get_or t i true) z ∙ sym p ∙ w))
            (λ w. rw (z ∙ own) (marks-owner es L K m lo hi (sym right ∙ sym q ∙ w) (λ y. omega (arith, own, z)))))
            (λ z. M.sound j l h (sym (get_or-set_other t o j (a || b) true z) ∙ e));
        keeps = λ j e. eq-cases j o
            (λ z. rw z (here ∙ or_left b (p ∙ ap (λ (i : ℕ). get_or t i true) (sym z) ∙ M.keeps j e)))
            (λ z. get_or-set_other t o j (a || b) true z ∙ M.keeps j e);
        done = λ i l h e y. eq-cases (owner_of es i) o
            (λ z. rw z (here ∙ eq-cases i m
            (λ v. or_right a (q ∙ right ∙ ap (marked K es) (sym v) ∙ e))
            (λ v. or_left b (p ∙ ap (λ (i : ℕ). get_or t i true) (sym z) ∙ M.done i (omega arith) h e y))))
            (λ z. get_or-set_other t o (owner_of es i) (a || b) true z ∙ M.done i (eq-cases i m (λ v. absurd (z (ap (owner_of es) v ∙ sym own))) (λ v. omega arith)) h e y);
      }

  pub marking-start : (t : List Bool) → ((j : ℕ) → K j ≡ get_or t j true) → Marking es K t (length es)
  marking-start t s =
      record {
        sound = λ j lo hi e. or_left (owns_kept K es j (length es)) (s j ∙ e);
        keeps = λ j e. sym (s j) ∙ e;
        done = λ i l h e y. absurd (omega arith);
      }

-- the owner of an entry that is read by its number
pub owner-read : (s : List ℕ) (total n : ℕ) {e : Entry} {o : ℕ} → total ≡ length (entries_of s) → o ≡ e.owner → e ≡ entry_of s total n
    → o ≡ owner_of (entries_of s) n
unfolding owner_of
owner-read s total n t e f = e ∙ ap (λ (x : Entry). x.owner) (f ∙ of-nth s total n t)

-- ---- a byte for each

-- one byte more
pub byte-more : (f : ℕ → ℕ) (t u : List ℕ) (i : ℕ) {x : ℕ} → u ≡ stored t 0 (listed f 1 i) → x ≡ f (suc i) → set u i x ≡ stored t 0 (listed f 1 (i + 1))
byte-more f t u i {x} e q =
    let long = length-listed f 1 i in
    let one : suc i ≡ i + 1 = omega arith in
    let next : 1 + i ≡ suc i = omega arith in
    stored-then t (listed f 1 i) (x ∷ []) 0 i e (stored_one u i x) (omega (arith, long))
    ∙ ap (stored t 0) (ap (λ (y : ℕ). listed f 1 i ++ (y ∷ [])) q ∙ ap (λ (k : ℕ). listed f 1 i ++ (f k ∷ [])) (sym next) ∙ sym (listed-last f 1 i) ∙ ap (listed f 1) one)

listed-same : (f g : ℕ → ℕ) (i n : ℕ) → ((k : ℕ) → i ≤ k → k < i + n → f k ≡ g k) → listed f i n ≡ listed g i n
unfolding listed
listed-same f g i zero h = refl
listed-same f g i (suc n) h = rw (h i (omega arith) (omega arith), listed-same f g (suc i) n (λ k lo hi. h k (omega arith) (omega arith)))

-- the bytes of a table that is a set's as far as they go
pub bytes-are : (M : ℕ → Bool) (t : List Bool) (n : ℕ) (out : List ℕ) → n ≤ length out → ((k : ℕ) → 1 ≤ k → k ≤ n → get_or t k true ≡ M k)
    → stored out 0 (listed (λ k. bit (get_or t k true)) 1 n) ≡ marked_bytes M n out
unfolding marked_bytes
bytes-are M t n out room h =
    let f = λ (k : ℕ). bit (get_or t k true) in
    let long = length-listed f 1 n in
    stored-front out (listed f 1 n) (omega (arith, long))
    ∙ ap (λ (k : ℕ). listed f 1 n ++ drop k out) long
    ∙ ap (λ (l : List ℕ). l ++ drop n out) (listed-same f (λ k. bit (M k)) 1 n (λ k lo hi. ap bit (h k lo (omega arith))))
