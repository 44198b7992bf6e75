-- The keys of the groups met by links that lead to one item only: how they grow, and how an owner and a link are found among them.
-- Assumes nothing.
use Rattle.std.proofs.Common.{◌≡◌, ℕ, zero, suc, ◌+◌, ◌-◌, ◌*◌, ◌<◌, ◌≤◌, true, false, not, eqb, Option, ◌≢◌, List, [], ◌∷◌, ◌++◌, length, get_or, sym, ap, ◌∙◌, refl, arith}
use Rattle.std.proofs.lemmas.List.{get_or_push, get_or_append_left, length_push}
use Rattle.std.specs.Option.{is_some}
use Rattle.base.proofs.KeyLaws.{is-unless, with-new, number-absent, number-has}
use Rattle.base.proofs.Tests.{and_both, and_left, and_right, both_ways, eq-cases, eq-eqb, ne_eqb, ge-ltb, lt-ltb}
use Rattle.base.specs.Keys.{last_number, number_in, numbered, with_key}
use Rattle.base.specs.Links.{is_single}
use Rattle.blocks.proofs.Refusing.SingleLaws.{adds-cases, group-adds, items-here, items_more, items-none, items-rise, nine-met}
use Rattle.blocks.specs.Entries.{nth}
use Rattle.blocks.specs.Single.{items_for, items_up_to, single_group, single_ok}
use Rattle.blocks.specs.code.SingleTable.{Kept, Listed, OfGroup, key_of}
use Rattle.blocks.specs.declared.Entry.{Entry}

-- ---- the keys

-- of no entries
pub kept-start : (es : List Entry) → Kept es [] 0
kept-start es = record { few = omega arith; met = λ k lo hi. absurd (omega arith); held = λ k lo hi q. absurd (omega arith) }

-- one of the first n is one of the first n + 1
later : {es : List Entry} {n key : ℕ} → OfGroup es n key → OfGroup es (n + 1) key
later o = record { entry = o.entry; low = o.low; high = omega (arith, o.high); group = o.group; key = o.key; small = o.small }

-- an entry that is no such group
pub kept-other : {es : List Entry} {keys : List ℕ} {n : ℕ} {e : Entry} → Kept es keys n → e ≡ nth es (n + 1)
    → single_group e ≡ false → Kept es keys (n + 1)
kept-other {n = n} K at q = record {
  few = omega (arith, K.few);
  met = λ k lo hi. later (K.met k lo hi);
  held = λ k lo hi g. eq-cases k (n + 1) (λ y. both_ways g (rw (y, ← at) q)) (λ y. K.held k lo (omega arith) g);
}

-- ---- an entry that is one

-- an owner and a link that no entry has as a group have no items
no_items : (es : List Entry) (o l n : ℕ)
    → ((k : ℕ) → 1 ≤ k → k ≤ n → eqb (nth es k).kind 7 ≡ true → o ≡ (nth es k).owner → l ≢ (nth es k).name)
    → items_up_to es o l n ≡ 0
no_items es o l zero h = items-none es o l
no_items es o l (suc n) h =
    let before = no_items es o l n (λ k lo hi. h k lo (omega arith)) in
    adds-cases o l (nth es (suc n))
    (λ z. omega (arith, items_more es o l n))
    (λ q own name. absurd (h (suc n) (omega arith) (omega arith) q own name))

-- a group adds its items to those of an owner and a link that are its own
own-adds : (o l : ℕ) (g : Entry) → single_group g ≡ true → o ≡ g.owner → l ≡ g.name → items_for o l g ≡ suc g.number
own-adds o l g q own name = rw (own, name) (group-adds g (and_left (eqb g.kind 7) (is_single g.name) q))

module _ {es : List Entry} {keys : List ℕ} {n : ℕ} {e : Entry} (K : Kept es keys n) (at : e ≡ nth es (n + 1))
    (group : single_group e ≡ true) (small : e.name < 65536) where
  -- a group of the owner and the link is there
  met-items : last_number keys (key_of e) ≢ 0 → 0 < items_up_to es e.owner e.name n
  met-items z =
      let has = number-has keys (key_of e) z in
      let o = K.met (last_number keys (key_of e)) (omega arith) has.1 in
      let k = o.entry in
      let key : key_of e ≡ key_of (nth es k) = sym has.0 ∙ o.key in
      let name : e.name ≡ (nth es k).name = omega (arith, o.small) in
      let own : e.owner ≡ (nth es k).owner = omega (arith, o.small) in
      let adds = own-adds e.owner e.name (nth es k) o.group own name in
      omega (arith, items-here es e.owner e.name k (λ y. omega (arith, o.low)), items-rise es e.owner e.name k n o.high)

  -- none is, where the key is not there
  free-items : last_number keys (key_of e) ≡ 0 → items_up_to es e.owner e.name n ≡ 0
  free-items z =
      no_items es e.owner e.name n
      (λ k lo hi kind own name.
      let single : is_single (nth es k).name ≡ true = rw name at (and_right (eqb e.kind 7) (is_single e.name) group) in
      let key : key_of (nth es k) ≡ key_of e = omega arith in
      let l = K.held k lo hi (and_both kind single) in
      number-absent keys (key_of e) z l.number l.some l.within (l.has ∙ key))

  -- so it breaks number 9 exactly where its key is there
  taken-second : e.number ≤ 0 → last_number keys (key_of e) ≢ 0 → true ≡ not (single_ok es (n + 1))
  taken-second one z = nine-met es n at group one (sym (lt-ltb (met-items z)))

  free-first : e.number ≤ 0 → last_number keys (key_of e) ≡ 0 → false ≡ not (single_ok es (n + 1))
  free-first one z =
      nine-met es n at group one (sym (ge-ltb {m = 0} {n = items_up_to es e.owner e.name n} (omega (arith, free-items z))))

  -- and its key stands behind the others
  abbrev grown : List ℕ
  grown = keys ++ key_of e ∷ []

  own-group : OfGroup es (n + 1) (key_of e)
  own-group = record {
    entry = n + 1;
    low = omega arith;
    high = omega arith;
    group = rw (← at) group;
    key = rw (← at) refl;
    small = rw (← at) small;
  }

  last : (k : ℕ) → k ≡ length keys + 1 → numbered grown k ≡ key_of e
  last k q = get_or_push keys (key_of e) 0 (k - 1) (omega arith)

  before : (k : ℕ) → 1 ≤ k → k ≤ length keys → numbered grown k ≡ numbered keys k
  before k lo hi = get_or_append_left keys (key_of e ∷ []) 0 (k - 1) (omega arith)

  kept_more : Kept es grown (n + 1)
  kept_more =
      let long = length_push keys (key_of e) in
      record {
        few = omega (arith, long, K.few);
        met = λ k lo hi.
            eq-cases k (length keys + 1)
            (λ q. rw (last k q) own-group)
            (λ q. rw (before k lo (omega (arith, long))) (later (K.met k lo (omega (arith, long)))));
        held = λ k lo hi g.
            eq-cases k (n + 1)
            (λ q. record { number = length keys + 1; some = omega arith; within = omega (arith, long); has = last _ refl ∙ rw (q, ← at) refl })
            (λ q.
            let l = K.held k lo (omega arith) g in
            record { number = l.number; some = l.some; within = omega (arith, l.within, long); has = before l.number l.some l.within ∙ l.has });
      }

  -- all this, of a table that enters the key where there is room
  pub kept-entered : {room x : ℕ} {r : Option ℕ} {keys' : List ℕ} → e.number ≤ 0 → x ≡ key_of e → r ≡ number_in keys x → keys' ≡ with_key room keys x
      → length keys < room → (is_some r ≡ not (single_ok es (n + 1))) × (is_some r ≡ false → Kept es keys' (n + 1))
  kept-entered {room} one f a b h =
      let there : is_some (number_in keys (key_of e)) ≡ not (eqb (last_number keys (key_of e)) 0) = is-unless (last_number keys (key_of e)) in
      rw (a, b, f, there) (eq-cases (last_number keys (key_of e)) 0
      (λ z. rw (eq-eqb z) (free-first one z, λ y. rw (← with-new room keys (key_of e) z h) kept_more))
      (λ z. rw (ne_eqb z) (taken-second one z, λ y. both_ways refl y)))
