-- The lines of the entries of a description with names: 13 is returned exactly where no line before that of the name applies, and 14 exactly
-- where no other line does.
-- Assumes nothing.
use Rattle.std.proofs.Common.{◌≡◌, ℕ, zero, suc, ◌+◌, ◌<◌, ◌≤◌, true, false, not, ◌&&◌, ltb, leb, ◌≢◌, ◌⊎◌, ◌↔◌, List, [], ◌∷◌, length, sym, refl, ap, ◌∙◌, inl, inr, ⊎_elim, arith}
use Rattle.answers.specs.Refusals.{NameRefused, SizeRefused}
use Rattle.base.proofs.Tests.{and_cases, bool_cases, eq-cases, gt-leb, leb-gt, ltb-ge, neither_left, neither_right, tests, true_of_not}
use Rattle.blocks.proofs.Refusing.FirstFault.{clean-none, first-append, first_found, found_first, none-clean, or_else}
use Rattle.blocks.proofs.RoundTrip.Accepting.{refused-by-first}
use Rattle.blocks.proofs.RoundTrip.RefusalNumbers.{named-number}
use Rattle.blocks.specs.Entries.{entries_of, form_ok, is_named, name_given, nth}
use Rattle.blocks.specs.Faults.{Clean, Fault, Faulty, Finding, block_faults, entry_faults, entry_rows, fault, faults, first, length_wrong, rows_from}
use Rattle.blocks.specs.Frame.{blocks_in, check_wrong, frame_wrong, plain}
use Rattle.blocks.specs.Owners.{depth_ok, owner_ok}
use Rattle.blocks.specs.Promise.{FirstOf, NoneApplies}
use Rattle.blocks.specs.Refusals.{number_of}
use Rattle.blocks.specs.declared.Cause.{Cause}
use Rattle.blocks.specs.declared.Cause.TheVariants.{Check, Depth, Form, Framing, Length, Name, Owner, Size}
use Rattle.blocks.specs.declared.Entry.{Entry}
use Rattle.blocks.specs.declared.Schema.TheVariants.{Named}
use Rattle.names.specs.NamedReading.{named_faults, too_large}
use Rattle.names.specs.Unfold.{unfolded_by}

-- ---- findings

finding-cases : {X : Type 0} (f : Finding) → (f ≡ Clean → X) → ((k : Cause) (p : ℕ) → f ≡ Faulty k p → X) → X
finding-cases Clean a b = a refl
finding-cases (Faulty k p) a b = b k p refl

no-finding : {X : Type 0} {f : Finding} {k : Cause} {p : ℕ} → f ≡ Clean → f ≡ Faulty k p → X
no-finding e g = let z : ◌≡◌ {A = ℕ} 0 1 = cc in absurd (omega arith)

same-finding : {f : Finding} {k : Cause} {p : ℕ} {k' : Cause} {p' : ℕ} → f ≡ Faulty k p → f ≡ Faulty k' p' → (k ≡ k') × (p ≡ p')
same-finding {f} {k} {p} {k'} {p'} e g = let a : k ≡ k' = cc in let b : p ≡ p' = cc in (a, b)

other-cause : {X : Type 0} {f : Finding} {k : Cause} {p : ℕ} {k' : Cause} {p' : ℕ} → f ≡ Faulty k p → f ≡ Faulty k' p'
    → number_of k ≢ number_of k' → X
other-cause e g h = absurd (h (ap number_of (same-finding e g).0))

-- ---- the lowest entry with a line that applies

-- each line gives the place n
abbrev Placed : ℕ → List Fault → Type 0
Placed n [] = Unit {0}
Placed n (f ∷ fs) = (f.place ≡ n) × Placed n fs

placed_first : (n : ℕ) (fs : List Fault) {k : Cause} {p : ℕ} → Placed n fs → first fs ≡ Faulty k p → p ≡ n
unfolding first
placed_first n [] h e = no-finding refl e
placed_first n (f ∷ fs) {k} {p} h e =
    bool_cases f.applies
    (λ q. let g : Faulty f.cause f.place ≡ Faulty k p = rw q at e in let b : p ≡ f.place = cc in b ∙ h.0)
    (λ q. placed_first n fs h.1 (rw q at e))

module _ (rows : ℕ → List Fault) (own : (n : ℕ) → Placed n (rows n)) where
  -- of `left` entries from n on
  record Lowest (n left : ℕ) (k : Cause) (p : ℕ) : Type 0 where
    from : n ≤ p
    to : p < n + left
    before : (j : ℕ) → n ≤ j → j < p → NoneApplies (rows j)
    found : first (rows p) ≡ Faulty k p

  lowest-found : (n left : ℕ) {k : Cause} {p : ℕ} → first (rows_from rows n left) ≡ Faulty k p → Lowest n left k p
  unfolding rows_from first
  lowest-found n zero e = no-finding refl e
  lowest-found n (suc left) {k} {p} e =
      let parts = sym (first-append (rows n) (rows_from rows (suc n) left)) ∙ e in
      finding-cases (first (rows n))
      (λ q.
      let r = lowest-found (suc n) left (rw q at parts) in
      record {
        from = omega (arith, r.from);
        to = omega (arith, r.to);
        before = λ j lo hi. eq-cases j n (λ z. rw z (clean-none (rows n) q)) (λ z. r.before j (omega arith) hi);
        found = r.found;
      })
      (λ k' p' q.
      let g : Faulty k' p' ≡ Faulty k p = rw q at parts in
      let s = same-finding refl g in
      let z : p ≡ n = sym s.1 ∙ placed_first n (rows n) (own n) q in
      let found : first (rows n) ≡ Faulty k n = q ∙ rw (s.0, s.1, z) in
      rw z (record { from = omega arith; to = omega arith; before = λ j lo hi. absurd (omega arith); found = found }))

  found-lowest : (n left : ℕ) {k : Cause} {p : ℕ} → Lowest n left k p → first (rows_from rows n left) ≡ Faulty k p
  unfolding rows_from
  found-lowest n zero r = absurd (omega (arith, r.from, r.to))
  found-lowest n (suc left) {k} {p} r =
      eq-cases p n
      (λ z.
      let f : first (rows n) ≡ Faulty k p = ap (λ (m : ℕ). first (rows m)) (sym z) ∙ r.found in
      first-append (rows n) (rows_from rows (suc n) left) ∙ rw f)
      (λ z.
      let c = none-clean (rows n) (r.before n (omega arith) (omega (arith, r.from))) in
      first-append (rows n) (rows_from rows (suc n) left) ∙ rw c (found-lowest (suc n) left
      (record { from = omega (arith, r.from); to = omega (arith, r.to); before = λ j lo hi. r.before j (omega arith) hi; found = r.found })))

-- ---- the blocks

block-number : (s : List ℕ) (n i left : ℕ) {k : Cause} {p : ℕ} → first (block_faults plain s n i left) ≡ Faulty k p → number_of k ≤ 3
unfolding block_faults first
block-number s n i zero e = no-finding refl e
block-number s n i (suc left) {k} {p} e =
    bool_cases (check_wrong s i)
    (λ q. let g : Faulty Check (suc i) ≡ Faulty k p = rw q at e in let a = ap number_of (same-finding refl g).0 in omega arith)
    (λ q. bool_cases (frame_wrong plain s n i)
    (λ w. let g : Faulty Framing (suc i) ≡ Faulty k p = rw (q, w) at e in let a = ap number_of (same-finding refl g).0 in omega arith)
    (λ w. block-number s n (suc i) left (rw (q, w) at e)))

-- ---- a name

module _ (most : ℕ) (e : Entry) where
  not-given : name_given most e ≡ false → (is_named e ≡ true) × ((e.name ≡ 0) ⊎ (most < e.name))
  unfolding name_given
  not-given h =
      let within = ltb 0 e.name && leb e.name most in (
        true_of_not (is_named e) (neither_left (not (is_named e)) within h),
        and_cases (ltb 0 e.name) (leb e.name most) (neither_right (not (is_named e)) within h)
            (λ q. let l : e.name ≤ 0 = ltb-ge q in let z : e.name ≡ 0 = omega arith in inl z)
            (λ q. inr (leb-gt q)),
      )

  given-not : is_named e ≡ true → (e.name ≡ 0) ⊎ (most < e.name) → name_given most e ≡ false
  unfolding name_given
  given-not q (inl z) = let a : ltb 0 e.name ≡ false = omega tests in rw (q, a)
  given-not q (inr l) = let b : leb e.name most ≡ false = gt-leb l in bool_cases (ltb 0 e.name) (λ a. rw (q, a, b)) (λ a. rw (q, a))

-- 13 is the number of the second line of an entry
module _ (most : ℕ) (es : List Entry) (p : ℕ) where
  rows-placed : Placed p (entry_rows (Named most) es p)
  rows-placed = (refl, (refl, (refl, (refl, tt))))

  second-line : {q : ℕ} → first (entry_rows (Named most) es p) ≡ Faulty Name q
      → (form_ok (Named most) (nth es p) ≡ true) × (name_given most (nth es p) ≡ false)
  unfolding first
  second-line {q} e =
      bool_cases (form_ok (Named most) (nth es p))
      (λ a. bool_cases (name_given most (nth es p))
      (λ b. bool_cases (owner_ok (Named most) es p)
      (λ c. bool_cases (depth_ok es p)
      (λ d. let g : Clean ≡ Faulty Name q = rw (a, b, c, d) at e in no-finding refl g)
      (λ d. let g : Faulty Depth p ≡ Faulty Name q = rw (a, b, c, d) at e in other-cause refl g (λ z. omega arith)))
      (λ c. let g : Faulty Owner p ≡ Faulty Name q = rw (a, b, c) at e in other-cause refl g (λ z. omega arith)))
      (λ b. (a, b)))
      (λ a. let g : Faulty Form p ≡ Faulty Name q = rw a at e in other-cause refl g (λ z. omega arith))

  line_second : form_ok (Named most) (nth es p) ≡ true → name_given most (nth es p) ≡ false → first (entry_rows (Named most) es p) ≡ Faulty Name p
  unfolding first
  line_second a b = rw (a, b)

module _ (K : List (List Entry)) (s : List ℕ) where
  abbrev es : List Entry
  es = entries_of s

  abbrev most : ℕ
  most = length K

  abbrev blocks : List Fault
  blocks = block_faults plain s (blocks_in s) 0 (blocks_in s)

  abbrev last : List Fault
  last = fault (too_large (unfolded_by K es)) Size 0 ∷ []

  -- the lines but 14, and 14
  in_two : first (named_faults K s) ≡ or_else (first (faults (Named most) s)) (first last)
  unfolding named_faults
  in_two = first-append (faults (Named most) s) last

  -- of 1 to 3, and of the entries
  in-turn : length_wrong (Named most) s ≡ false
      → first (faults (Named most) s) ≡ or_else (first blocks) (first (entry_faults (Named most) es 1 (length es)))
  unfolding faults first
  in-turn q = rw q (first-append blocks (entry_faults (Named most) es 1 (length es)))

  -- ---- 13

  thirteen-refused : {p : ℕ} → first (faults (Named most) s) ≡ Faulty Name p → NameRefused K s p
  unfolding faults first entry_faults
  thirteen-refused {p} e =
      bool_cases (length_wrong (Named most) s)
      (λ q. let g : Faulty Length 0 ≡ Faulty Name p = rw q at e in other-cause refl g (λ z. omega arith))
      (λ q.
      let f = sym (in-turn q) ∙ e in
      finding-cases (first blocks)
      (λ c.
      let r = lowest-found (entry_rows (Named most) es) (rows-placed most es) 1 (length es) (rw c at f) in
      let n = second-line most es p r.found in
      let g = not-given most (nth es p) n.1 in
      record {
        whole = q;
        blocks = clean-none blocks c;
        from = r.from;
        to = omega (arith, r.to);
        before = r.before;
        form = n.0;
        named = g.0;
        wrong = g.1;
      })
      (λ k p' c.
      let g : Faulty k p' ≡ Faulty Name p = rw c at f in
      other-cause refl g (λ z. omega (arith, block-number s (blocks_in s) 0 (blocks_in s) c))))

  refused-thirteen : {p : ℕ} → NameRefused K s p → first (faults (Named most) s) ≡ Faulty Name p
  unfolding entry_faults
  refused-thirteen {p} R =
      let c = none-clean blocks R.blocks in
      let r : Lowest (entry_rows (Named most) es) (rows-placed most es) 1 (length es) Name p =
      record {
        from = R.from;
        to = omega (arith, R.to);
        before = R.before;
        found = line_second most es p R.form (given-not most (nth es p) R.named R.wrong);
      } in
      in-turn R.whole ∙ rw c (found-lowest (entry_rows (Named most) es) (rows-placed most es) 1 (length es) r)

  -- [R24] at its entry, after 4
  pub thirteen-exactly : {p : ℕ} → FirstOf (named_faults K s) Name p ↔ NameRefused K s p
  unfolding first
  thirteen-exactly {p} = (
    λ f.
        let e = sym in_two ∙ first_found (named_faults K s) Name p f in
        finding-cases (first (faults (Named most) s))
        (λ c. bool_cases (too_large (unfolded_by K es))
        (λ t. let g : Faulty Size 0 ≡ Faulty Name p = rw (c, t) at e in other-cause refl g (λ z. omega arith))
        (λ t. let g : Clean ≡ Faulty Name p = rw (c, t) at e in no-finding refl g))
        (λ k q c. let g : Faulty k q ≡ Faulty Name p = rw c at e in thirteen-refused (c ∙ g)),
    λ R. let c = refused-thirteen R in found_first (named_faults K s) Name p (in_two ∙ rw c),
  )

  -- ---- 14

  -- [R24] place 0, after the input's other checks
  pub fourteen-exactly : {p : ℕ} → FirstOf (named_faults K s) Size p ↔ ((p ≡ 0) × SizeRefused K s)
  unfolding first
  fourteen-exactly {p} = (
    λ f.
        let e = sym in_two ∙ first_found (named_faults K s) Size p f in
        finding-cases (first (faults (Named most) s))
        (λ c. bool_cases (too_large (unfolded_by K es))
        (λ t.
        let g : Faulty Size 0 ≡ Faulty Size p = rw (c, t) at e in
        let z : p ≡ 0 = cc in
        (z, record { others = clean-none (faults (Named most) s) c; large = t }))
        (λ t. let g : Clean ≡ Faulty Size p = rw (c, t) at e in no-finding refl g))
        (λ k q c.
        let g : Faulty k q ≡ Faulty Size p = rw c at e in
        let r = refused-by-first (Named most) 1 s (found_first (faults (Named most) s) k q c) in
        other-cause refl g (λ z. ⊎_elim (λ l. omega arith) (λ l. omega arith) (named-number most 1 s r))),
    λ h.
        let c = none-clean (faults (Named most) s) h.1.others in
        let t = h.1.large in
        let z = h.0 in
        found_first (named_faults K s) Size p (in_two ∙ rw (c, t, z)),
  )
