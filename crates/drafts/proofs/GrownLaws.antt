-- Descriptions that grow entry by entry, with none refused, are the legal ones: an entry is judged by those before it alone.
-- Assumes nothing.
use Rattle.std.proofs.Common.{◌≡◌, ℕ, zero, suc, ◌+◌, ◌≤◌, ◌<◌, true, ◌&&◌, eqb, ltb, List, [], ◌∷◌, ◌++◌, append_assoc, length, length-append, length-take, get_or, take, drop, drop-cons, Ok, refl, sym, ap, ◌∙◌, arith}
use Rattle.std.proofs.lemmas.List.{take-append-drop}
use Rattle.base.proofs.Tests.{and_left, eqb-eq, ltb-lt, or_cases, eq-cases, eq-eqb, ge-ltb, lt-cases, ne_eqb, true_of_not}
use Rattle.blocks.proofs.Refusing.FirstFault.{clean-none}
use Rattle.blocks.proofs.Refusing.Legal.{owner-earlier}
use Rattle.blocks.specs.Entries.{form_ok, nth, zero_entry}
use Rattle.blocks.specs.Faults.{Clean, Faulty, Finding, entry_rows, first}
use Rattle.blocks.specs.Owners.{chain, depth_of, depth_ok, owner_of, owner_ok}
use Rattle.blocks.specs.Promise.{Legal, NoneApplies}
use Rattle.blocks.specs.Reading.{answer}
use Rattle.blocks.specs.declared.Entry.{Entry}
use Rattle.blocks.specs.declared.Schema.TheVariants.{Description}
use Rattle.drafts.specs.Draft.{adding, with_entry}
use Rattle.drafts.specs.Listed.{Grown}

-- ---- a list and more behind it

pub nth-prefix : (xs ys : List Entry) (n : ℕ) → n ≤ length xs → nth (xs ++ ys) n ≡ nth xs n
unfolding nth
nth-prefix xs ys zero h = refl
nth-prefix [] ys (suc n) h = absurd (omega arith)
nth-prefix (x ∷ xs) ys (suc zero) h = refl
nth-prefix (x ∷ xs) ys (suc (suc n)) h = nth-prefix xs ys (suc n) (omega arith)

pub owner-prefix : (xs ys : List Entry) (n : ℕ) → n ≤ length xs → owner_of (xs ++ ys) n ≡ owner_of xs n
unfolding owner_of
owner-prefix xs ys n h = ap (λ (x : Entry). x.owner) (nth-prefix xs ys n h)

lower : (xs : List Entry) → ((j : ℕ) → 1 ≤ j → j ≤ length xs → owner_of xs j < j) → (k : ℕ) → k ≤ length xs → owner_of xs k ≤ length xs
unfolding owner_of nth
lower xs early zero h = omega arith
lower xs early (suc k) h = let e = early (suc k) (omega arith) h in omega arith

pub chain-prefix : (xs ys : List Entry) → ((j : ℕ) → 1 ≤ j → j ≤ length xs → owner_of xs j < j) → (steps k : ℕ) → k ≤ length xs
    → chain (xs ++ ys) steps k ≡ chain xs steps k
unfolding chain
chain-prefix xs ys early zero k h = refl
chain-prefix xs ys early (suc steps) k h =
    let o = owner-prefix xs ys k h in
    eq-cases (owner_of xs k) 0
    (λ z. rw (o, eq-eqb z))
    (λ z. rw (o, ne_eqb z, chain-prefix xs ys early steps (owner_of xs k) (lower xs early k h)))

pub owner-ok-prefix : (xs ys : List Entry) (n : ℕ) → n ≤ length xs → owner_ok Description (xs ++ ys) n ≡ owner_ok Description xs n
unfolding owner_ok
owner-ok-prefix xs ys n h =
    let o = owner-prefix xs ys n h in
    lt-cases (owner_of xs n) n
    (λ l. rw (o, nth-prefix xs ys (owner_of xs n) (omega arith)))
    (λ g. rw (o, ge-ltb g))

pub depth-ok-prefix : (xs ys : List Entry) (n : ℕ) → ((j : ℕ) → 1 ≤ j → j ≤ length xs → owner_of xs j < j) → n ≤ length xs → depth_ok (xs ++ ys) n ≡ depth_ok xs n
unfolding depth_ok depth_of
depth-ok-prefix xs ys n early h = rw (chain-prefix xs ys early n n h)

-- ---- one entry more

module _ (es xs : List Entry) (e : Entry) (ys : List Entry) (at : es ≡ xs ++ (e ∷ ys)) where
  whole : es ≡ with_entry xs e ++ ys
  whole = at ∙ rw append_assoc

  long : length (with_entry xs e) ≡ suc (length xs)
  long = let l = length-append xs (e ∷ []) in omega arith

  -- a legal list adds it
  pub adds-of-legal : Legal Description es → adding xs e ≡ Ok (suc (length xs))
  unfolding adding first
  adds-of-legal L =
      let n = suc (length xs) in
      let len : length es ≡ length (with_entry xs e) + length ys = ap length whole ∙ length-append (with_entry xs e) ys in
      let hi : n ≤ length es = omega (arith, long) in
      let in' : n ≤ length (with_entry xs e) = omega (arith, long) in
      let early : (j : ℕ) → 1 ≤ j → j ≤ length (with_entry xs e) → owner_of (with_entry xs e) j < j =
      λ j lo h. rw (← owner-prefix (with_entry xs e) ys j h, ← whole) (owner-earlier L j lo (omega arith)) in
      let f : form_ok Description (nth (with_entry xs e) n) ≡ true = rw (← nth-prefix (with_entry xs e) ys n in', ← whole) (L.form n (omega arith) hi) in
      let o : owner_ok Description (with_entry xs e) n ≡ true = rw (← owner-ok-prefix (with_entry xs e) ys n in', ← whole) (L.owner n (omega arith) hi) in
      let d : depth_ok (with_entry xs e) n ≡ true = rw (← depth-ok-prefix (with_entry xs e) ys n early in', ← whole) (L.depth n (omega arith) hi) in
      rw (adding, f, o, d)

-- a legal list of at most 1,008 entries grows entry by entry
pub grown-of-legal : (es : List Entry) → length es ≤ 1008 → Legal Description es → Grown es
grown-of-legal es few L = record { few = few; each = λ xs e ys at. adds-of-legal es xs e ys at L }

-- ---- and the other way round

clean-of : (a : ℕ) {m : ℕ} (f : Finding) → answer {A = ℕ} 1 a f ≡ Ok m → f ≡ Clean
clean-of a Clean h = refl
clean-of a (Faulty k p) h = absurd (let z : ◌≡◌ {A = ℕ} 0 1 = cc in omega arith)

-- what an entry that is added keeps
added : (xs : List Entry) (e : Entry) {m : ℕ} → adding xs e ≡ Ok m
    → (form_ok Description (nth (with_entry xs e) (suc (length xs))) ≡ true) × (owner_ok Description (with_entry xs e) (suc (length xs)) ≡ true)
    × (depth_ok (with_entry xs e) (suc (length xs)) ≡ true)
unfolding adding NoneApplies
added xs e h =
    let n = clean-none (entry_rows Description (with_entry xs e) (suc (length xs))) (clean-of (suc (length xs)) (first (entry_rows Description (with_entry xs e) (suc (length xs)))) h) in
    (true_of_not _ n.0, true_of_not _ n.1.0, true_of_not _ n.1.1.0)

-- a list split at entry n
split-at : (es : List Entry) (k : ℕ) → k < length es → es ≡ take k es ++ (get_or es k zero_entry ∷ drop (suc k) es)
split-at es k h = sym (take-append-drop k es) ∙ ap (λ (ys : List Entry). take k es ++ ys) (drop-cons es k zero_entry h)

module _ (es : List Entry) (G : Grown es) where
  parts_at : (k : ℕ) → k < length es → (form_ok Description (nth (with_entry (take k es) (get_or es k zero_entry)) (suc k)) ≡ true)
      × (owner_ok Description (with_entry (take k es) (get_or es k zero_entry)) (suc k) ≡ true)
      × (depth_ok (with_entry (take k es) (get_or es k zero_entry)) (suc k) ≡ true)
  parts_at k h =
      let l : length (take k es) ≡ k = let t = length-take k es in omega arith in
      rw l at (added (take k es) (get_or es k zero_entry) (G.each (take k es) (get_or es k zero_entry) (drop (suc k) es) (split-at es k h)))

  front : (k : ℕ) → k < length es → es ≡ with_entry (take k es) (get_or es k zero_entry) ++ drop (suc k) es
  front k h = split-at es k h ∙ rw append_assoc

  front-long : (k : ℕ) → k < length es → length (with_entry (take k es) (get_or es k zero_entry)) ≡ suc k
  front-long k h = let l = length-append (take k es) (get_or es k zero_entry ∷ []) in let t = length-take k es in omega arith

  owners : (n : ℕ) → 1 ≤ n → n ≤ length es → owner_ok Description es n ≡ true
  owners zero lo hi = absurd (omega arith)
  owners (suc k) lo hi =
      let xs = with_entry (take k es) (get_or es k zero_entry) in
      let ys = drop (suc k) es in
      let len = front-long k (omega arith) in
      ap (λ (l : List Entry). owner_ok Description l (suc k)) (front k (omega arith)) ∙ owner-ok-prefix xs ys (suc k) (omega arith) ∙ (parts_at k (omega arith)).1

  earlier : (n : ℕ) → 1 ≤ n → n ≤ length es → owner_of es n < n
  unfolding owner_ok
  earlier n lo hi =
      or_cases (eqb (owner_of es n) 0) (ltb (owner_of es n) n && eqb (nth es (owner_of es n)).kind 5) (owners n lo hi)
      (λ q. let z = eqb-eq q in omega arith)
      (λ q. ltb-lt (and_left (ltb (owner_of es n) n) (eqb (nth es (owner_of es n)).kind 5) q))

  form-at : (n : ℕ) → 1 ≤ n → n ≤ length es → form_ok Description (nth es n) ≡ true
  form-at zero lo hi = absurd (omega arith)
  form-at (suc k) lo hi =
      let xs = with_entry (take k es) (get_or es k zero_entry) in
      let ys = drop (suc k) es in
      let len = front-long k (omega arith) in
      ap (λ (l : List Entry). form_ok Description (nth l (suc k))) (front k (omega arith))
      ∙ ap (form_ok Description) (nth-prefix xs ys (suc k) (omega arith)) ∙ (parts_at k (omega arith)).0

  depth-at : (n : ℕ) → 1 ≤ n → n ≤ length es → depth_ok es n ≡ true
  depth-at zero lo hi = absurd (omega arith)
  depth-at (suc k) lo hi =
      let xs = with_entry (take k es) (get_or es k zero_entry) in
      let ys = drop (suc k) es in
      let len = front-long k (omega arith) in
      let f = front k (omega arith) in
      let early : (j : ℕ) → 1 ≤ j → j ≤ length xs → owner_of xs j < j =
      λ j a b. rw (← owner-prefix xs ys j b, ← f) (earlier j a (omega arith)) in
      ap (λ (l : List Entry). depth_ok l (suc k)) f ∙ depth-ok-prefix xs ys (suc k) early (omega arith) ∙ (parts_at k (omega arith)).2

  pub legal-of-grown : Legal Description es
  legal-of-grown =
      record {
        form = λ n lo hi. form-at n lo hi;
        owner = owners;
        depth = λ n lo hi. depth-at n lo hi;
      }
