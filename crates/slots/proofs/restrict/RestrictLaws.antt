-- Laws of the pass under what every record keeps: what it makes of the slots, and what it leaves.
-- Assumes nothing.
use Prim.Native.Nat.{◌%◌, ◌+◌, ◌/◌, ◌<◌, ◌≤◌, suc, zero, ℕ}
use lib.Dec.{eqb, ltb}
use lib.ListN.{get_or, length, length-set, set}
use lib.Seq.{get_or-set_other, get_or-set_same}
use mathlib.Core.Bool.{Bool, ◌||◌, cond, false, true}
use mathlib.Core.List.{List}
use mathlib.Core.Option.{Option, none, some}
use mathlib.Core.Path.{◌∙◌, ◌≡◌, ap, refl, sym}
use native.Mathlib.Omega.{arith}
use Rattle.base.proofs.Tests.{bool_cases, eq-cases, eq-eqb, ge-ltb, gt-leb, le-leb, lt-cases, lt-ltb, ne_eqb, tests}
use Rattle.base.specs.Links.{is_single}
use Rattle.logic.specs.Normal as normal
use Rattle.pairs.specs.Pairs.{under}
use Rattle.passes.specs.code.Restrict.{excluded_at, idle, restrict, restrict_by, restricted_high, slots_under}
use Rattle.passes.specs.code.Slots.{slot}
use Rattle.slots.proofs.slots.TableLaws.{high-made, key-made, low-bound, low-made}
use Rattle.slots.proofs.states.BoundLaws.{kept-keys}
use Rattle.slots.specs.code.Tables.{Built, Exact, Kept, Restricted, built_slots, excluded_high, excluded_slot, high_in, high_part, key_in, link_word, low_part, no_bound, property_word, restricted_word, single_high, slot_in, slot_number, slots_from, slots_of}

-- ---- one slot

single-most : (lo hi : ℕ) → single_high lo hi ≤ no_bound
unfolding single_high
single-most lo hi =
    bool_cases (ltb 1 lo || eqb hi 0) (λ q. rw (single_high, q) (omega arith)) (λ q. rw (single_high, q) (omega arith))

-- that is what the rule gives a link of cap 1
single-rule : (lo hi : ℕ) → high_in (single_high lo hi) ≡ cond (normal.under lo (some 1)) (some 0) (cond (idle (some 1) (high_in hi)) none (high_in hi))
unfolding single_high
single-rule lo hi =
    bool_cases (ltb 1 lo)
    (λ q. rw (single_high, q))
    (λ q. eq-cases hi 0
    (λ z. rw (single_high, q, z))
    (λ z. lt-cases hi no_bound
    (λ l. rw (single_high, q, ne_eqb z, lt-ltb l, le-leb {m = 1} {n = hi} (omega arith)))
    (λ l. rw (single_high, q, ne_eqb z, ge-ltb l))))

-- and a link of no cap keeps its bound
uncapped : (hi : Option ℕ) → cond (idle none hi) none hi ≡ hi
uncapped none = refl
uncapped (some h) = refl

-- an excluded property's
excluded-most : (lo : ℕ) → excluded_high lo ≤ no_bound
unfolding excluded_high
excluded-most lo = bool_cases (eqb lo 0) (λ q. rw q (omega arith)) (λ q. rw q (omega arith))

excluded-rule : (lo : ℕ) → high_in (excluded_high lo) ≡ cond (eqb lo 0) none (some 0)
unfolding excluded_high
excluded-rule lo = bool_cases (eqb lo 0) (λ q. rw q) (λ q. rw q)

-- a slot is as it was, or has another upper bound
pub record Rebound (x y : ℕ) (hi : Option ℕ) : Type 0 where
  pub key : key_in y ≡ key_in x
  pub low : low_part y ≡ low_part x
  pub most : high_part x ≤ no_bound → high_part y ≤ no_bound
  pub high : high_in (high_part y) ≡ hi

same-bound : (x : ℕ) → Rebound x x (high_in (high_part x))
same-bound x = record { key = refl; low = refl; most = λ h. h; high = refl }

new-bound : (x h : ℕ) → h ≤ no_bound → Rebound x (slot_number (key_in x) (low_part x) h) (high_in h)
new-bound x h l =
    let small : h < 131072 = omega arith in
    let made = high-made (key_in x) (low_part x) h (low-bound x) small in
    record {
      key = key-made (key_in x) (low_part x) h (low-bound x) small;
      low = low-made (key_in x) (low_part x) h (low-bound x) small;
      most = λ m. rw made l;
      high = ap high_in made;
    }

-- the upper bound of a slot under a list is the one that its background gives
module _ (P : List ℕ) (x : ℕ) where
  abbrev is_link_here : Bool
  is_link_here = eqb (key_in x / 65536 % 2) 1

  -- a key below 65,536, modulo 131,072, is that of a property; from 98,304 on that of a link from 32,768 up
  property-here : ltb (key_in x % 131072) 65536 ≡ true → is_link_here ≡ false
  property-here q = let l : key_in x % 131072 < 65536 = omega (tests, q) in ne_eqb (λ (e : key_in x / 65536 % 2 ≡ 1). omega arith)

  link_here : ltb (key_in x % 131072) 65536 ≡ false → is_link_here ≡ true
  link_here q = let l : 65536 ≤ key_in x % 131072 = omega (tests, q) in eq-eqb {m = key_in x / 65536 % 2} {n = 1} (omega arith)

  single-here : ltb (key_in x % 131072) 98304 ≡ false → is_single (key_in x % 65536) ≡ true
  single-here q = let l : 98304 ≤ key_in x % 131072 = omega (tests, q) in le-leb {m = 32768} {n = key_in x % 65536} (omega arith)

  other-here : ltb (key_in x % 131072) 65536 ≡ false → ltb (key_in x % 131072) 98304 ≡ true → is_single (key_in x % 65536) ≡ false
  other-here r q =
      let l : key_in x % 131072 < 98304 = omega (tests, q) in
      let m : 65536 ≤ key_in x % 131072 = omega (tests, r) in
      gt-leb {m = 32768} {n = key_in x % 65536} (omega arith)

  abbrev RuleHigh : Bool → Option ℕ
  RuleHigh out = restricted_high (under P) is_link_here out (key_in x % 65536) (low_part x) (high_in (high_part x))

  property-bound : (out : Bool) → ltb (key_in x % 131072) 65536 ≡ true → Rebound x (property_word out x) (RuleHigh out)
  unfolding property_word
  property-bound true q =
      rw (property-here q, ← excluded-rule (low_part x)) (new-bound x (excluded_high (low_part x)) (excluded-most (low_part x)))
  property-bound false q = rw (property-here q) (same-bound x)

  link-bound : (out : Bool) → ltb (key_in x % 131072) 65536 ≡ false → Rebound x (link_word x) (RuleHigh out)
  unfolding link_word
  link-bound out r =
      bool_cases (ltb (key_in x % 131072) 98304)
      (λ q. rw (q, link_here r, other-here r q, uncapped (high_in (high_part x))) (same-bound x))
      (λ q. rw (q, link_here r, single-here q, ← single-rule (low_part x) (high_part x))
      (new-bound x (single_high (low_part x) (high_part x)) (single-most (low_part x) (high_part x))))

  pub restricted-bound : (out : Bool) → Rebound x (restricted_word out x) (RuleHigh out)
  unfolding restricted_word
  restricted-bound out =
      bool_cases (ltb (key_in x % 131072) 65536) (λ q. rw q (property-bound out q)) (λ q. rw q (link-bound out q))

-- a slot stays where its name is not excluded and it is not that of a single link
pub word-stays : {out : Bool} (x : ℕ) → out ≡ false → ltb (key_in x % 131072) 98304 ≡ true → restricted_word out x ≡ x
unfolding restricted_word property_word link_word
word-stays x o q =
    bool_cases (ltb (key_in x % 131072) 65536) (λ r. rw (restricted_word, r, o)) (λ r. rw (restricted_word, r, q))

-- a slot of a single link, made anew
pub link-made : (x : ℕ) {k k' lo lo' hi r y : ℕ} → k ≡ key_in x → ltb (k % 131072) 98304 ≡ false → k' ≡ key_in x → lo ≡ low_part x → lo' ≡ low_part x
    → hi ≡ high_part x → y ≡ single_high lo' hi → r ≡ slot_number k' lo y → r ≡ link_word x
unfolding link_word
link-made x e h f g g' i j l =
    let test : ltb (key_in x % 131072) 98304 ≡ false = rw (← e) h in
    rw test (l ∙ rw (f, g, j, g', i))

-- one of a property that is excluded
pub property-made : (x : ℕ) {k lo lo' r y : ℕ} {out : Bool} → out ≡ true → k ≡ key_in x → lo ≡ low_part x → lo' ≡ low_part x → y ≡ excluded_high lo'
    → r ≡ slot_number k lo y → r ≡ property_word out x
unfolding property_word
property-made x o f g g' j l = rw o (l ∙ rw (f, g, j, g'))

-- ---- all slots

-- a slot under a list, as a slot
slot-restricted : (P : List ℕ) (out : Bool) (x : ℕ) → slot_in (restricted_word out x)
    ≡ slot (key_in x / 131072) (eqb (key_in x / 65536 % 2) 1) (key_in x % 65536) (low_part x)
    (restricted_high (under P) (eqb (key_in x / 65536 % 2) 1) out (key_in x % 65536) (low_part x) (high_in (high_part x)))
unfolding slot_in
slot-restricted P out x = let r = restricted-bound P x out in rw (slot_in, r.key, r.low, r.high)

slots-restricted : (P : List ℕ) (f : ℕ → ℕ → Bool) (o t : List ℕ) (i n : ℕ)
    → ((j : ℕ) → i ≤ j → j < i + n → get_or t j 0 ≡ restricted_word (f (key_in (get_or o j 0) / 131072) (key_in (get_or o j 0) % 65536)) (get_or o j 0))
    → slots_from t i n ≡ restrict_by (under P) f (slots_from o i n)
unfolding slots_from restrict_by slot_in
slots-restricted P f o t i zero h = refl
slots-restricted P f o t i (suc n) h =
    rw (
      h i (omega arith) (omega arith),
      slot-restricted P (f (key_in (get_or o i 0) / 131072) (key_in (get_or o i 0) % 65536)) (get_or o i 0),
      slots-restricted P f o t (suc i) n (λ j lo hi. h j (omega arith) (omega arith)),
    )

-- ---- the table

pub restrict-starts : (P t : List ℕ) (used : ℕ) → Restricted P t used 0 t
restrict-starts P t used = record { size = refl; changed = λ j lo hi. absurd (omega arith); top = refl; rest = λ j l. refl }

module _ {P o t : List ℕ} {used s : ℕ} (R : Restricted P o used s t) where
  -- each slot is as it was, or has another upper bound
  stays : {A : Type 0} (f : ℕ → A) → ((j : ℕ) → 1 ≤ j → j ≤ s → f (restricted_word (excluded_slot P o used (get_or o j 0)) (get_or o j 0)) ≡ f (get_or o j 0))
      → (j : ℕ) → f (get_or t j 0) ≡ f (get_or o j 0)
  stays f h j =
      eq-cases j 0
      (λ z. rw z (ap f R.top))
      (λ z. lt-cases s j (λ l. ap f (R.rest j l)) (λ l. ap f (R.changed j (omega arith) l) ∙ h j (omega arith) l))

  pub key-stays : (j : ℕ) → key_in (get_or t j 0) ≡ key_in (get_or o j 0)
  key-stays = stays key_in (λ j lo hi. (restricted-bound P (get_or o j 0) (excluded_slot P o used (get_or o j 0))).key)

  pub low-stays : (j : ℕ) → low_part (get_or t j 0) ≡ low_part (get_or o j 0)
  low-stays = stays low_part (λ j lo hi. (restricted-bound P (get_or o j 0) (excluded_slot P o used (get_or o j 0))).low)

  pub kept-stays : {cells : List ℕ} {most : ℕ} → Kept o most cells used → Kept t most cells used
  kept-stays k = kept-keys k R.size key-stays

  -- one slot more
  pub restrict-goes : {x : ℕ} → s + 1 < length t → x ≡ restricted_word (excluded_slot P o used (get_or t (s + 1) 0)) (get_or t (s + 1) 0)
      → Restricted P o used (s + 1) (set t (s + 1) x)
  restrict-goes {x} h e =
      let y = get_or o (s + 1) 0 in
      let here : get_or t (s + 1) 0 ≡ y = R.rest (s + 1) (omega arith) in
      let new : x ≡ restricted_word (excluded_slot P o used y) y = rw here at e in
      record {
        size = rw length-set R.size;
        changed = λ j lo hi. eq-cases j (s + 1)
            (λ q. rw q (get_or-set_same t (s + 1) x 0 h ∙ new))
            (λ q. get_or-set_other t (s + 1) j x 0 q ∙ R.changed j lo (omega arith));
        top = get_or-set_other t (s + 1) 0 x 0 (λ q. omega arith) ∙ R.top;
        rest = λ j l. get_or-set_other t (s + 1) j x 0 (λ q. omega arith) ∙ R.rest j (omega arith);
      }

pub restrict-done : {P o t : List ℕ} {s used : ℕ} → Restricted P o used s t → s ≤ used → used ≤ s → Restricted P o used used t
restrict-done {s = s} {used} R le ge = let e : s ≡ used = omega arith in rw e at R

module _ {P o t : List ℕ} {used : ℕ} (R : Restricted P o used used t) where
  exact-stays : {origin : List ℕ} → Exact origin o used → Exact origin t used
  exact-stays x =
      record {
        size = R.size ∙ x.size;
        high = λ j lo hi. rw (R.changed j lo hi) ((restricted-bound P (get_or o j 0) (excluded_slot P o used (get_or o j 0))).most (x.high j lo hi));
        top = R.top ∙ x.top;
        rest = λ j l. R.rest j l ∙ x.rest j l;
      }

  -- the slots of a description stand there under the list
  pub built-restricted : {d origin cells : List ℕ} {most : ℕ} → Built (built_slots d) d used origin o most cells
      → Built (slots_of (under P) d) d used origin t most cells
  unfolding slots_under restrict
  built-restricted {d} k =
      record {
        slotted = ap (restrict (under P)) k.slotted
            ∙ sym (slots-restricted P (excluded_at (under P) (slots_from o 1 used)) o t 1 used (λ j lo hi. R.changed j lo (omega arith)));
        exact = exact-stays k.exact;
        kept = kept-stays R k.kept;
        few = k.few;
        bounded = k.bounded;
      }
