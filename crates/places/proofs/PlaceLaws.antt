-- The tables of the places of a description, filled from the last entry to the first.
-- Assumes nothing.
use Rattle.std.proofs.Common.{◌≡◌, ◌≢◌, ℕ, suc, ◌+◌, ◌-◌, ◌<◌, ◌≤◌, eqb, not, List, length, length-set, length-take, get_or, get_or-set_other, get_or-set_same, set, take, refl, sym, ap, ◌∙◌, arith}
use Rattle.std.proofs.lemmas.List.{get_or-take, get_or_past}
use Rattle.base.proofs.SearchLaws.{none_first}
use Rattle.base.proofs.Tests.{eq-cases, eq-eqb, lt-cases, ne_eqb}
use Rattle.base.specs.Search.{first_from}
use Rattle.blocks.proofs.Refusing.Legal.{owner-earlier}
use Rattle.blocks.specs.Entries.{nth, zero_entry}
use Rattle.blocks.specs.Owners.{owner_of}
use Rattle.blocks.specs.Promise.{Legal}
use Rattle.blocks.specs.declared.Entry.{Entry}
use Rattle.blocks.specs.declared.Schema.TheVariants.{Description}
use Rattle.places.specs.Owned.{next_of, owned_after}
use Rattle.places.specs.code.Chained.{Chained, Filled}

-- the tables of the entries after entry n
pub record ChainedFrom (es : List Entry) (first next : List ℕ) (n : ℕ) : Type 0 where
  pub size : length es < length first
  pub next_size : length es < length next
  pub counted : n ≤ length es
  pub begins : (o : ℕ) → o ≤ length es → get_or first o 0 ≡ owned_after es o n
  pub follows : (k : ℕ) → n < k → k ≤ length es → get_or next k 0 ≡ owned_after es (owner_of es k) k
  pub blank : get_or next 0 0 ≡ 0

owned-none : (es : List Entry) (o n : ℕ) → length es ≤ n → owned_after es o n ≡ 0
unfolding owned_after first_from
owned-none es o n h = let e : length es - n ≡ 0 = omega arith in rw e refl

owned-here : (es : List Entry) (o n : ℕ) → 1 ≤ n → n ≤ length es → owner_of es n ≡ o → owned_after es o (n - 1) ≡ n
unfolding owned_after first_from
owned-here es o n lo hi z =
    let e : length es - (n - 1) ≡ suc (length es - n) = omega arith in
    let s : suc (n - 1) ≡ n = omega arith in
    rw (e, first_from, s, eq-eqb z)

owned-else : (es : List Entry) (o n : ℕ) → 1 ≤ n → n ≤ length es → owner_of es n ≢ o
    → owned_after es o (n - 1) ≡ owned_after es o n
unfolding owned_after first_from
owned-else es o n lo hi z =
    let e : length es - (n - 1) ≡ suc (length es - n) = omega arith in
    let s : suc (n - 1) ≡ n = omega arith in
    rw (e, first_from, s, ne_eqb z)

-- of no entries
pub chained-start : (es : List Entry) {first next : List ℕ} (n : ℕ) → n ≡ length es → length es < length first → length es < length next
    → ((k : ℕ) → k ≤ n → get_or first k 0 ≡ 0) → get_or next 0 0 ≡ 0 → ChainedFrom es first next n
chained-start es n t f g z b = record {
  size = f;
  next_size = g;
  counted = omega arith;
  begins = λ o h. z o (omega arith) ∙ sym (owned-none es o n (omega arith));
  follows = λ k h l. absurd (omega arith);
  blank = b;
}

-- an entry more, in front of its place
pub chained-more : (es : List Entry) (first next : List ℕ) (n o : ℕ) → ChainedFrom es first next n → 1 ≤ n
    → o ≡ owner_of es n → o < n → ChainedFrom es (set first o n) (set next n (get_or first o 0)) (n - 1)
chained-more es first next n o C lo w early =
    record {
      size = rw (length-set first o n) C.size;
      next_size = rw (length-set next n (get_or first o 0)) C.next_size;
      counted = omega (arith, C.counted);
      begins = λ k h.
          eq-cases k o
          (λ z. rw z (get_or-set_same first o n 0 (omega (arith, C.counted, C.size)) ∙ sym (owned-here es o n lo C.counted (sym w))))
          (λ z.
          get_or-set_other first o k n 0 z ∙ C.begins k h ∙ sym (owned-else es k n lo C.counted (λ q. z (sym (w ∙ q)))));
      follows = λ k a h.
          eq-cases k n
          (λ z.
          rw z (get_or-set_same next n (get_or first o 0) 0 (omega (arith, C.counted, C.next_size)) ∙ C.begins o (omega (arith, C.counted))
          ∙ ap (λ (x : ℕ). owned_after es x n) w))
          (λ z. get_or-set_other next n k (get_or first o 0) 0 z ∙ C.follows k (omega arith) h);
      blank = get_or-set_other next n 0 (get_or first o 0) 0 (λ q. omega arith) ∙ C.blank;
    }

-- of all entries
pub chained-all : (es : List Entry) {entries : List Entry} (first next : List ℕ) (n : ℕ) → n ≡ 0
    → ((k : ℕ) → k ≤ length es → get_or entries k zero_entry ≡ nth es k) → ChainedFrom es first next n → Filled es entries first next
unfolding next_of
chained-all es first next n z t C = record {
  numbered = t;
  begins = λ o h. rw z at (C.begins o h);
  follows = λ k h. eq-cases k 0
      (λ q. let b : get_or next k 0 ≡ 0 = rw q C.blank in b ∙ rw (next_of, eq-eqb q) refl)
      (λ q. C.follows k (omega arith) h ∙ rw (next_of, ne_eqb q) refl);
}

-- ---- the fronts of tables

module _ (es : List Entry) (L : Legal Description es) where
  -- no entry is owned by one past the last
  owned-past : (o : ℕ) → length es < o → owned_after es o 0 ≡ 0
  unfolding owned_after
  owned-past o h =
      none_first (λ k. not (eqb (owner_of es k) o)) 1 (length es - 0)
      (λ k a b. let w = owner-earlier L k a (omega arith) in rw (ne_eqb {m = owner_of es k} {n = o} (λ q. omega (arith, w))) refl)

  next-past : (n : ℕ) → length es < n → next_of es n ≡ 0
  unfolding next_of
  next-past n h = rw (next_of, ne_eqb {m = n} {n = 0} (λ q. omega arith)) (owned-none es (owner_of es n) n (omega arith))

  module _ {entries : List Entry} {first next : List ℕ} (F : Filled es entries first next) (m : ℕ) (t : m ≡ length es + 1) where
    pub chained-front : Chained es (take m first) (take m next)
    chained-front = record {
      begins = λ o. lt-cases o m
          (λ h. get_or-take m first o 0 h ∙ F.begins o (omega arith))
          (λ h. get_or_past (take m first) o 0 (omega (arith, length-take m first)) ∙ sym (owned-past o (omega arith)));
      follows = λ n. lt-cases n m
          (λ h. get_or-take m next n 0 h ∙ F.follows n (omega arith))
          (λ h. get_or_past (take m next) n 0 (omega (arith, length-take m next)) ∙ sym (next-past n (omega arith)));
    }

    pub numbered-front : (n : ℕ) → get_or (take m entries) n zero_entry ≡ nth es n
    unfolding nth
    numbered-front n = lt-cases n m
        (λ h. get_or-take m entries n zero_entry h ∙ F.numbered n (omega arith))
        (λ h.
        let e : n ≡ suc (n - 1) = omega arith in
        get_or_past (take m entries) n zero_entry (omega (arith, length-take m entries))
        ∙ sym (rw (e, nth) (get_or_past es (n - 1) zero_entry (omega arith))))
