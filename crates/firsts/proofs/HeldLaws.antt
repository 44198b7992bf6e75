-- Keys in the table, by their numbers.
-- Assumes nothing.
use Rattle.std.proofs.Common.{◌≡◌, ℕ, zero, suc, ◌+◌, ◌-◌, ◌*◌, ◌^◌, ◌<◌, ◌≤◌, ◌≢◌, Some, None, List, [], ◌∷◌, ◌++◌, length, get_or, replicate, set, take, sym, refl, ◌∙◌, arith, length-set}
use lib.ListN.{length-replicate}
use Rattle.base.proofs.Lists.{zeros-read}
use Rattle.std.proofs.lemmas.List.{length-take-le, take_more_set, get_or_push, get_or_append_left}
use Rattle.base.proofs.KeyLaws.{number-empty, unless-none, unless-some, with-full, with-known, with-new}
use Rattle.base.proofs.Tests.{eq-cases}
use Rattle.base.proofs.WayLaws.{ends-at, free-misses, planted-start, planted_more, product-parting}
use Rattle.base.specs.Keys.{last_number, number_in, numbered, with_key}
use Rattle.base.specs.Ways.{Ends, Passed, by_product}
use Rattle.firsts.proofs.RoomLaws.{roomy}
use Rattle.firsts.specs.code.Held.{Held, Sound, room_of}

-- the first n of a list
take-at : (l : List ℕ) (n i : ℕ) → i < n → get_or (take n l) i 0 ≡ get_or l i 0
take-at [] zero i h = absurd (omega arith)
take-at [] (suc n) i h = refl
take-at (x ∷ l) zero i h = absurd (omega arith)
take-at (x ∷ l) (suc n) zero h = refl
take-at (x ∷ l) (suc n) (suc i) h = take-at l n i (omega arith)

take-small : (l : List ℕ) (n w : ℕ) → 0 < w → ((i : ℕ) → get_or l i 0 < w) → (i : ℕ) → get_or (take n l) i 0 < w
take-small [] zero w p h i = p
take-small [] (suc n) w p h i = p
take-small (x ∷ l) zero w p h i = p
take-small (x ∷ l) (suc n) w p h zero = h 0
take-small (x ∷ l) (suc n) w p h (suc i) = take-small l n w p (λ j. h (suc j)) i

module _ {keys cells : List ℕ} {most used : ℕ} (K : Sound keys cells most used) where
  -- the keys that it holds
  abbrev own : List ℕ
  own = take used keys

  -- the key of the number in a cell
  pub key-at : {x turns c n : ℕ} → Passed (numbered own) cells (by_product most) x turns c
      → n ≡ get_or cells c 0 → n ≢ 0 → numbered own n ≡ get_or keys (n - 1) 0
  key-at {c = c} {n = n} P e z =
      let low = K.planted.known c (λ q. z (e ∙ q)) in
      take-at keys used (n - 1) (omega arith)

  pub key-below : (n : ℕ) → ((i : ℕ) → get_or keys i 0 < 2 ^ 32) → numbered own n < 2 ^ 32
  key-below n h = take-small keys used (2 ^ 32) (omega arith) h (n - 1)

  pub keys-long : length own ≡ used
  keys-long = length-take-le used keys K.in_keys

  -- where the search for a key ends is its number, or 0
  module _ {x c n : ℕ} (E : Ends (numbered own) cells (by_product most) 32 x c) (e : n ≡ get_or cells c 0) where
    pub held-number : {l : List ℕ} → l ≡ own → n ≡ last_number l x
    held-number q = rw (q, keys-long) (e ∙ ends-at K.planted K.apart E)

    -- a key that has one is not entered again
    pub held-again : {l : List ℕ} (room : ℕ) → l ≡ own → n ≢ 0 → (Some n ≡ number_in l x) × (l ≡ with_key room l x)
    held-again {l} room q z =
        let at = held-number q in
        (rw (← at) (unless-some n z), with-known room l x (λ y. z (at ∙ y)))

    -- nor is any where there is no room
    pub held-full : {l : List ℕ} {room : ℕ} → l ≡ own → n ≡ 0 → room ≤ used
        → (None ≡ number_in l x) × (l ≡ with_key room l x)
    held-full {l} {room} q z h =
        (rw (← held-number q) (unless-none z), with-full room l x (rw q (omega (arith, keys-long))))

    -- another key takes the free cell
    module _ (z : n ≡ 0) (fits : used < length keys) where
      abbrev grown : List ℕ
      grown = take (used + 1) (set keys used x)

      grown-is : grown ≡ own ++ x ∷ []
      grown-is = take_more_set keys used x fits

      key-last : numbered grown (used + 1) ≡ x
      key-last = let at : used + 1 - 1 ≡ used = omega arith in rw (at, grown-is) (get_or_push own x 0 used keys-long)

      key-old : (j : ℕ) → 1 ≤ j → j ≤ used → numbered grown j ≡ numbered own j
      key-old j lo hi = rw grown-is (get_or_append_left own (x ∷ []) 0 (j - 1) (omega (arith, keys-long)))

      none : (k : ℕ) → 1 ≤ k → k ≤ used → numbered own k ≢ x
      none k lo hi same =
          let s = K.planted.held k lo hi in
          free-misses E.passed K.planted (sym e ∙ z) s.cell (λ y. omega (arith, s.has)) (rw s.has same)

      pub held-more : most + 2 * (used + 1) + 2 ≤ length cells → Sound (set keys used x) (set cells c (used + 1)) most (used + 1)
      held-more wide = record {
        small = rw (length-set cells c (used + 1)) K.small;
        in_keys = rw (length-set keys used x) (omega arith);
        planted = planted_more K.planted E.passed (sym e ∙ z) wide key-old key-last;
        apart = λ i j a b d. eq-cases j (used + 1)
            (λ q w. none i a (omega arith) (sym (key-old i a (omega arith)) ∙ w ∙ rw q key-last))
            (λ q w.
            K.apart i j a b (omega arith) (sym (key-old i a (omega arith)) ∙ w ∙ key-old j (omega arith) (omega arith)));
      }

      pub held-entered : {l : List ℕ} {room : ℕ} → l ≡ own → used < room
          → (None ≡ number_in l x) × (grown ≡ with_key room l x)
      held-entered {l} {room} q h =
          let at = held-number q in (
            rw (← at) (unless-none z),
            rw q (grown-is ∙ with-new room own x (sym (held-number refl) ∙ z) (omega (arith, keys-long))),
          )

-- where there is no room, there are no keys
pub held-none : {keys cells l : List ℕ} {most room used : ℕ} → Held keys cells most room used → room ≡ 0 → l ≡ take used keys
    → (x : ℕ) → (None ≡ number_in l x) × (l ≡ with_key room l x)
held-none {keys} {l = l} {room = room} {used = used} K z q x =
    let none : used ≡ 0 = omega (arith, K.few) in
    let empty : l ≡ [] = rw none at q in
    (rw empty (number-empty x), with-full room l x (omega arith))

-- a table with no keys
pub held-start : (keys cells most : ℕ) → Held (replicate keys 0) (replicate cells 0) most (room_of most cells keys) 0
held-start keys cells most =
    let wide : length (replicate {A = ℕ} cells 0) ≡ cells = length-replicate {A = ℕ} cells 0 in
    record {
      few = omega arith;
      sound = λ h.
          let r = roomy most cells keys h in
          record {
            small = rw wide r.small;
            in_keys = omega arith;
            planted = planted-start _ (by_product most) (product-parting most r.some) (rw wide (omega (arith, r.in_cells))) (zeros-read cells refl);
            apart = λ i j a b d. absurd (omega arith);
          };
    }
