-- The single links met among the entries of a delivered record: how they grow, and when one leads to a second item.
-- Assumes nothing.
use Rattle.std.proofs.Common.{◌≡◌, ◌≢◌, ℕ, zero, suc, ◌+◌, ◌-◌, ◌*◌, ◌<◌, ◌≤◌, Bool, true, false, not, ◌&&◌, ◌||◌, eqb, List, [], ◌∷◌, ◌++◌, length, set, Option, Some, None, get_or, get_or-set_other, get_or-set_same, refl, sym, ap, ◌∙◌, arith}
use Rattle.std.proofs.lemmas.List.{get_or_push, get_or_append_left, length_push}
use Rattle.base.proofs.KeyLaws.{number-absent, number-has, number-none, with-known, with-new}
use Rattle.base.proofs.Tests.{and_both, and_left, and_right, bool_cases, both_ways, eq-cases, eq-eqb, eqb-eq, false_of_not, not-to-true}
use Rattle.base.specs.Keys.{last_number, number_in, numbered, unless_zero, with_key}
use Rattle.base.specs.Links.{is_single}
use Rattle.blocks.specs.Entries.{nth}
use Rattle.blocks.specs.code.SingleTable.{Listed, key_of}
use Rattle.blocks.specs.declared.Entry.{Entry}
use Rattle.clashes.proofs.Among.{among_one, one-among}
use Rattle.clashes.specs.Clash.{one_of_first}
use Rattle.delivered.specs.Reading.{another, single_link, to_another}
use Rattle.delivered.specs.code.Noted.{Noted, OfLink}

-- where each of the first entries fails, none passes
none-among : (f : Entry → Bool) (es : List Entry) (n : ℕ) → ((k : ℕ) → 1 ≤ k → k ≤ n → f (nth es k) ≡ false) → one_of_first f es n ≡ false
none-among f es n h =
    bool_cases (one_of_first f es n) (λ t. let a = one-among f es n t in both_ways a.passes (h a.at a.from a.to)) (λ q. q)

-- a number that there is
some-is : (n : ℕ) {k : ℕ} → Some k ≡ unless_zero n → (k ≡ n) × (k ≢ 0)
some-is zero {k} e = let z : ◌≡◌ {A = ℕ} 0 1 = cc in absurd (omega arith)
some-is (suc n) {k} e = let z : k ≡ suc n = cc in (z, λ q. omega arith)

-- ---- the table

-- of no entries
pub noted-start : (es : List Entry) (items : List ℕ) → Noted es [] items 0
noted-start es items = record {
  few = omega arith;
  met = λ k lo hi. absurd (omega arith);
  held = λ j lo hi q. absurd (omega arith);
  same = λ j k lo hi q a b e. absurd (omega arith);
}

-- one of the first n is one of the first n + 1
later : {es : List Entry} {n x m : ℕ} → OfLink es n x m → OfLink es (n + 1) x m
later o = record { entry = o.entry; low = o.low; high = omega (arith, o.high); link = o.link; key = o.key; number = o.number; small = o.small }

-- an entry that is no such link
pub noted-other : {es : List Entry} {keys items : List ℕ} {n : ℕ} {e : Entry} → Noted es keys items n → e ≡ nth es (n + 1)
    → single_link e ≡ false → Noted es keys items (n + 1)
noted-other {n = n} N at q = record {
  few = omega (arith, N.few);
  met = λ k lo hi. later (N.met k lo hi);
  held = λ j lo hi g. eq-cases j (n + 1) (λ y. both_ways g (rw (y, ← at) q)) (λ y. N.held j lo (omega arith) g);
  same = λ j k lo hi g a b e. eq-cases j (n + 1) (λ y. both_ways g (rw (y, ← at) q)) (λ y. N.same j k lo (omega arith) g a b e);
}

-- and it leads to no second item
pub other-fine : (es : List Entry) (n : ℕ) {e : Entry} → e ≡ nth es (n + 1) → single_link e ≡ false → false ≡ another es (n + 1)
unfolding another
other-fine es n at q = rw (← at, q)

module _ {es : List Entry} {keys items : List ℕ} {n : ℕ} {e : Entry} (N : Noted es keys items n) (at : e ≡ nth es (n + 1))
    (link : single_link e ≡ true) (small : e.name < 65536) where
  kind : eqb e.kind 8 ≡ true
  kind = and_left (eqb e.kind 8) (is_single e.name) link

  single : is_single e.name ≡ true
  single = and_right (eqb e.kind 8) (is_single e.name) link

  -- an entry that links the same item by the same link is such a link, has the same key, and leads to another item
  to-link : (k : Entry) → to_another e k ≡ true → (single_link k ≡ true) × (key_of k ≡ key_of e) × (eqb k.number e.number ≡ false)
  to-link k h =
      let a = and_right (eqb k.kind 8) (eqb k.owner e.owner && (eqb k.name e.name && not (eqb k.number e.number))) h in
      let b = and_right (eqb k.owner e.owner) (eqb k.name e.name && not (eqb k.number e.number)) a in
      let o : k.owner ≡ e.owner = eqb-eq (and_left (eqb k.owner e.owner) (eqb k.name e.name && not (eqb k.number e.number)) a) in
      let m : k.name ≡ e.name = eqb-eq (and_left (eqb k.name e.name) (not (eqb k.number e.number)) b) in (
        and_both (and_left (eqb k.kind 8) (eqb k.owner e.owner && (eqb k.name e.name && not (eqb k.number e.number))) h) (ap is_single m ∙ single),
        omega arith,
        false_of_not (eqb k.number e.number) (and_right (eqb k.name e.name) (not (eqb k.number e.number)) b),
      )

  -- whether entry n + 1 leads to a second item, by those before it
  told : another es (n + 1) ≡ one_of_first (to_another e) es n
  unfolding another
  told = let z : n + 1 - 1 ≡ n = omega arith in rw (another, ← at, link, z)

  none-told : ((k : ℕ) → 1 ≤ k → k ≤ n → single_link (nth es k) ≡ true → key_of (nth es k) ≡ key_of e → eqb (nth es k).number e.number ≡ true)
      → false ≡ another es (n + 1)
  none-told h =
      sym (told ∙ none-among (to_another e) es n (λ k lo hi.
      bool_cases (to_another e (nth es k)) (λ q. let p = to-link (nth es k) q in both_ways (h k lo hi p.0 p.1) p.2) (λ q. q)))

  -- ---- its key is there, with an item

  module _ {k : ℕ} (is : k ≡ last_number keys (key_of e)) (some : k ≢ 0) where
    has : (numbered keys k ≡ key_of e) × (k ≤ length keys)
    has = rw is (number-has keys (key_of e) (λ z. some (is ∙ z)))

    here : OfLink es n (numbered keys k) (numbered items k)
    here = N.met k (omega arith) has.1

    second : eqb (numbered items k) e.number ≡ false → true ≡ another es (n + 1)
    second q =
        let j = here.entry in
        let x : key_of e ≡ key_of (nth es j) = sym has.0 ∙ here.key in
        let name : (nth es j).name ≡ e.name = omega (arith, here.small) in
        let own : (nth es j).owner ≡ e.owner = omega (arith, here.small) in
        let number : eqb (nth es j).number e.number ≡ false = rw here.number at q in
        let links = and_left (eqb (nth es j).kind 8) (is_single (nth es j).name) here.link in
        sym (told ∙ among_one (to_another e) es n
        (record { at = j; from = here.low; to = here.high; passes = and_both links (and_both (eq-eqb own) (and_both (eq-eqb name) (not-to-true number))) }))

    -- an entry of the same key leads to that item
    alike : (j : ℕ) → 1 ≤ j → j ≤ n → single_link (nth es j) ≡ true → key_of (nth es j) ≡ key_of e → (nth es j).number ≡ numbered items k
    alike j lo hi q x = N.same j k lo hi q (omega arith) has.1 (has.0 ∙ sym x)

    first-again : numbered items k ≡ e.number → false ≡ another es (n + 1)
    first-again z = none-told (λ j lo hi q x. eq-eqb (alike j lo hi q x ∙ z))

    again : numbered items k ≡ e.number → Noted es keys items (n + 1)
    again z = record {
      few = omega (arith, N.few);
      met = λ i lo hi. later (N.met i lo hi);
      held = λ j lo hi g.
          eq-cases j (n + 1)
          (λ y. record { number = k; some = omega arith; within = has.1; has = has.0 ∙ rw (y, ← at) refl })
          (λ y. N.held j lo (omega arith) g);
      same = λ j i lo hi g a b x.
          eq-cases j (n + 1)
          (λ y.
          let o = N.met i a b in
          let own : numbered keys i ≡ key_of e = rw (y, ← at) at x in
          let m = alike o.entry o.low o.high o.link (sym o.key ∙ own) in
          rw (y, ← at) (sym z ∙ sym m ∙ sym o.number))
          (λ y. N.same j i lo (omega arith) g a b x);
    }

    pub known : (not (eqb (numbered items k) e.number) ≡ another es (n + 1)) × (not (eqb (numbered items k) e.number) ≡ false → Noted es keys items (n + 1))
    known =
        bool_cases (eqb (numbered items k) e.number)
        (λ q. rw q (first-again (eqb-eq q), λ y. again (eqb-eq q)))
        (λ q. rw q (second q, λ y. both_ways refl y))

  -- ---- it is not

  module _ (absent : last_number keys (key_of e) ≡ 0) where
    never : (j : ℕ) → 1 ≤ j → j ≤ n → single_link (nth es j) ≡ true → key_of (nth es j) ≢ key_of e
    never j lo hi q x = let l = N.held j lo hi q in number-absent keys (key_of e) absent l.number l.some l.within (l.has ∙ x)

    pub fresh-fine : false ≡ another es (n + 1)
    fresh-fine = none-told (λ j lo hi q x. absurd (never j lo hi q x))

    -- the key then stands behind the others, and its item beside it
    abbrev grown : List ℕ
    grown = keys ++ key_of e ∷ []

    abbrev led : List ℕ
    led = set items (length keys) e.number

    last : (k : ℕ) → k ≡ length keys + 1 → numbered grown k ≡ key_of e
    last k q = get_or_push keys (key_of e) 0 (k - 1) (omega arith)

    before : (k : ℕ) → 1 ≤ k → k ≤ length keys → numbered grown k ≡ numbered keys k
    before k lo hi = get_or_append_left keys (key_of e ∷ []) 0 (k - 1) (omega arith)

    module _ (room : length keys < length items) where
      last-item : (k : ℕ) → k ≡ length keys + 1 → numbered led k ≡ e.number
      last-item k q = let z : k - 1 ≡ length keys = omega arith in rw z (get_or-set_same items (length keys) e.number 0 room)

      before-item : (k : ℕ) → 1 ≤ k → k ≤ length keys → numbered led k ≡ numbered items k
      before-item k lo hi = get_or-set_other items (length keys) (k - 1) e.number 0 (λ (q : k - 1 ≡ length keys). omega arith)

      own-link : (k : ℕ) → k ≡ length keys + 1 → OfLink es (n + 1) (numbered grown k) (numbered led k)
      own-link k q = record {
        entry = n + 1;
        low = omega arith;
        high = omega arith;
        link = rw (← at) link;
        key = rw (← at) (last k q);
        number = rw (← at) (last-item k q);
        small = rw (← at) small;
      }

      pub fresh-noted : Noted es grown led (n + 1)
      fresh-noted =
          let long = length_push keys (key_of e) in
          record {
            few = omega (arith, long, N.few);
            met = λ k lo hi.
                eq-cases k (length keys + 1)
                (λ q. own-link k q)
                (λ q. rw (before k lo (omega (arith, long)), before-item k lo (omega (arith, long))) (later (N.met k lo (omega (arith, long)))));
            held = λ j lo hi g.
                eq-cases j (n + 1)
                (λ q. record { number = length keys + 1; some = omega arith; within = omega (arith, long); has = last _ refl ∙ rw (q, ← at) refl })
                (λ q.
                let l = N.held j lo (omega arith) g in
                record { number = l.number; some = l.some; within = omega (arith, l.within, long); has = before l.number l.some l.within ∙ l.has });
            same = λ j k lo hi g a b x.
                eq-cases k (length keys + 1)
                (λ w. eq-cases j (n + 1)
                (λ y. rw (y, ← at) (sym (last-item k w)))
                (λ y. absurd (never j lo (omega arith) g (sym x ∙ last k w))))
                (λ w.
                let within : k ≤ length keys = omega (arith, long) in
                eq-cases j (n + 1)
                (λ y.
                let own : numbered keys k ≡ key_of e = sym (before k a within) ∙ rw (y, ← at) at x in
                absurd (number-absent keys (key_of e) absent k a within own))
                (λ y. N.same j k lo (omega arith) g a within (sym (before k a within) ∙ x) ∙ sym (before-item k a within)));
          }

  -- ---- the same, of a table that enters the key where there is room

  pub met-noted : (room x : ℕ) {k : ℕ} {r : Option ℕ} {more : List ℕ} → x ≡ key_of e → r ≡ number_in keys x → more ≡ with_key room keys x → r ≡ Some k
      → (not (eqb (numbered items k) e.number) ≡ another es (n + 1)) × (not (eqb (numbered items k) e.number) ≡ false → Noted es more items (n + 1))
  met-noted room x f a b s =
      let j = some-is (last_number keys (key_of e)) (sym s ∙ a ∙ ap (number_in keys) f) in
      let same = with-known room keys (key_of e) (λ q. j.1 (j.0 ∙ q)) in
      let K = known j.0 j.1 in
      (K.0, λ q. rw (b, f, ← same) (K.1 q))

  pub new-noted : (room x : ℕ) {at' : ℕ} {r : Option ℕ} {more : List ℕ} → x ≡ key_of e → r ≡ number_in keys x → more ≡ with_key room keys x → r ≡ None
      → length keys < room → length keys < length items → at' ≡ length keys
      → (false ≡ another es (n + 1)) × Noted es more (set items at' e.number) (n + 1)
  new-noted room x f a b s h long w =
      let z = number-none (last_number keys (key_of e)) (sym s ∙ a ∙ ap (number_in keys) f) in
      (fresh-fine z, rw (b, f, ← with-new room keys (key_of e) z h, w) (fresh-noted z long))

-- how many keys there are then
pub met-many : (room x : ℕ) (keys : List ℕ) {k : ℕ} {r : Option ℕ} {more : List ℕ} → r ≡ number_in keys x → more ≡ with_key room keys x → r ≡ Some k
    → (length keys ≡ length more) × (1 ≤ k) × (k ≤ length keys)
met-many room x keys a b s =
    let j = some-is (last_number keys x) (sym s ∙ a) in
    let some : last_number keys x ≢ 0 = λ q. j.1 (j.0 ∙ q) in
    let same = with-known room keys x some in
    (ap length (same ∙ sym b), omega (arith, j.1), omega (arith, j.0, (number-has keys x some).1))

pub new-many : (room x : ℕ) (keys : List ℕ) {r : Option ℕ} {more : List ℕ} → r ≡ number_in keys x → more ≡ with_key room keys x → r ≡ None → length keys < room
    → length keys + 1 ≡ length more
new-many room x keys a b s h =
    let z = number-none (last_number keys x) (sym s ∙ a) in
    sym (length_push keys x) ∙ ap length (with-new room keys x z h ∙ sym b)
