-- An entry completes a pair where its owner was given what stands beside its property in the list.
-- Assumes nothing.
use Rattle.std.proofs.Common.{◌≡◌, ◌∙◌, ◌≢◌, ℕ, suc, ◌+◌, ◌-◌, ◌<◌, ◌≤◌, Bool, ◌&&◌, ◌||◌, true, false, not, eqb, ltb, List, get_or, length, set, replicate, ap, sym, refl, subst, arith}
use Rattle.std.specs.Prelude.{None, Option, Some}
use lib.ListN.{length-replicate, length-set}
use lib.Seq.{get_or-set_other, get_or-set_same}
use mathlib.Core.Bool.{or_comm}
use Rattle.std.proofs.lemmas.List.{get_or-replicate}
use Rattle.base.proofs.SearchLaws.{first-same}
use Rattle.base.proofs.Tests.{and_both, and_left, and_right, and_zero, bool_cases, eq-cases, eq-eqb, eqb-eq, eqb-ne, eqb-self, lt-ltb, ne_eqb, tests}
use Rattle.blocks.specs.Entries.{nth}
use Rattle.blocks.specs.Owners.{owner_of}
use Rattle.blocks.specs.declared.Entry.{Entry}
use Rattle.clashes.proofs.Among.{Among, among_one, one-among, one_none}
use Rattle.clashes.specs.Clash.{completes, gives_property, one_of_first, partner_before, partner_of}
use Rattle.clashes.specs.Promise.{apart_below, apart_ok}
use Rattle.clashes.specs.code.Given.{GivenTo, counted, given_before, gives_owner}
use Rattle.pairs.proofs.IndexLaws.{partners-end, partners-start}
use Rattle.pairs.proofs.Partners.{Partner, partnered-any, partnered-is}
use Rattle.pairs.proofs.SidesLaws.{excluding-partnered, marks-beside, marks-bucket, marks-join, marks-none, marks-same}
use Rattle.pairs.specs.Pairs.{excludes_in}
use Rattle.pairs.specs.code.Index.{PairsIndexed, bucket_of, named_count, partnered}
use Rattle.pairs.specs.code.Search.{Finds}
use Rattle.pairs.specs.code.Sides.{Marks, excluding, joined, no_sides}
use Rattle.pairs.specs.declared.sides.Sides.{Sides}

-- ---- an earlier partner

module _ (P : List ℕ) (es : List Entry) (o p n : ℕ) where
  partner-given : Among (partner_of P o p) es n → Partner P (λ q. given_before es o q n) p
  partner-given a =
      let e = nth es a.at in
      let both = and_right (gives_property e) (eqb o e.owner && excludes_in P e.name p) a.passes in
      record {
        name = e.name;
        held = among_one (gives_owner o e.name) es n
            (record {
              at = a.at;
              from = a.from;
              to = a.to;
              passes = and_both (and_left (gives_property e) _ a.passes) (and_both (and_left (eqb o e.owner) _ both) (eqb-self e.name));
            });
        excluding = and_right (eqb o e.owner) (excludes_in P e.name p) both;
      }

  given-partner : Partner P (λ q. given_before es o q n) p → Among (partner_of P o p) es n
  given-partner x =
      let a = one-among (gives_owner o x.name) es n x.held in
      let e = nth es a.at in
      let both = and_right (gives_property e) (eqb o e.owner && eqb x.name e.name) a.passes in
      let name : x.name ≡ e.name = eqb-eq (and_right (eqb o e.owner) (eqb x.name e.name) both) in
      record {
        at = a.at;
        from = a.from;
        to = a.to;
        passes = and_both (and_left (gives_property e) _ a.passes)
            (and_both (and_left (eqb o e.owner) (eqb x.name e.name) both) (ap (λ (q : ℕ). excludes_in P q p) (sym name) ∙ x.excluding));
      }

  -- those beside the property in the list are looked for
  pub partner-is : partner_before P es o p n ≡ partnered P (λ q. given_before es o q n) p (named_count P)
  partner-is =
      partnered-is P (λ q. given_before es o q n) p
      (λ t. partner-given (one-among (partner_of P o p) es n t))
      (λ x. among_one (partner_of P o p) es n (given-partner x))

-- ---- before the first entry

pub given-start : (P : List ℕ) (es : List Entry) (k : ℕ) {s : Sides} → s ≡ no_sides → GivenTo P es 0 (replicate k s)
given-start P es k {s} e o there =
    rw (e, get_or-replicate {A = Sides} k o no_sides no_sides (rw (length-replicate {A = Sides} k s) at there))
    (marks-same P (λ q. sym (one_none (gives_owner o q) es)) (marks-none P))

-- an entry that counts has an owner in the table
pub counted-below : (index : List ℕ) (most : ℕ) (e : Entry) → counted index most e ≡ true → e.owner < most
unfolding counted
counted-below index most e f =
    let below : ltb e.owner most ≡ true = and_right (not (eqb (get_or index (bucket_of e.name) 0) 0)) _ (and_right (gives_property e) _ f) in
    omega (tests, below)

-- ---- entry m + 1, which is e, after the first m

module _ (P : List ℕ) (es : List Entry) (m : ℕ) {e : Entry} (at : e ≡ nth es (m + 1)) where
  completes-other : e.kind ≢ 1 → completes P es (m + 1) ≡ false
  unfolding completes
  completes-other h = rw (completes, ← at, ne_eqb h) refl

  completes-by : e.kind ≡ 1 → completes P es (m + 1) ≡ partner_before P es e.owner e.name m
  unfolding completes owner_of
  completes-by h = let back : m + 1 - 1 ≡ m = omega arith in rw (completes, owner_of, ← at, eq-eqb h, back) refl

  -- what its owner is given then
  given-more : (o q : ℕ) → given_before es o q (m + 1) ≡ (gives_owner o q e || given_before es o q m)
  unfolding one_of_first
  given-more o q = let up : m + 1 ≡ suc m = omega arith in rw (at, up) refl

  -- an owner gets what it had, or what the entry gives
  marks-more : (o : ℕ) {s : Sides} → Marks P (λ q. given_before es o q m || gives_owner o q e) s → Marks P (λ q. given_before es o q (m + 1)) s
  marks-more o = marks-same P (λ q. or_comm (given_before es o q m) (gives_owner o q e) ∙ sym (given-more o q))

  -- what the test of its number says
  pub below-tested : (k : ℕ) {r : Bool} → r ≡ (ltb e.owner k && completes P es (m + 1)) → apart_below k P es (m + 1) ≡ not r
  unfolding owner_of
  below-tested k {r} h = rw (owner_of, ← at) (ap not (sym h))

  module _ {index : List ℕ} (I : PairsIndexed P index) (t : List Sides) (G : GivenTo P es m t) where
    -- one that does not count alters nothing
    other-none : counted index (length t) e ≡ false → (o : ℕ) → o < length t → Marks P (λ q. gives_owner o q e) no_sides
    unfolding counted
    other-none f o there =
        let test : (gives_property e && (not (eqb (get_or index (bucket_of e.name) 0) 0) && ltb e.owner (length t))) ≡ false = f in
        eq-cases o e.owner
        (λ z.
        bool_cases (gives_property e)
        (λ k. bool_cases (eqb (get_or index (bucket_of e.name) 0) 0)
        (λ b. marks-same P (λ q. rw (k, z, eqb-self e.owner) refl) (marks-bucket I e.name (eqb-eq b)))
        (λ b. absurd (omega (tests, rw (k, b) at test, z, there))))
        (λ k. rw k (marks-none P)))
        (λ z. marks-same P (λ q. rw (ne_eqb z, and_zero (gives_property e)) refl) (marks-none P))

    other-completes : counted index (length t) e ≡ false → (ltb e.owner (length t) && completes P es (m + 1)) ≡ false
    unfolding counted
    other-completes f =
        let test : (gives_property e && (not (eqb (get_or index (bucket_of e.name) 0) 0) && ltb e.owner (length t))) ≡ false = f in
        bool_cases (gives_property e)
        (λ k. bool_cases (eqb (get_or index (bucket_of e.name) 0) 0)
        (λ b.
        let none : completes P es (m + 1) ≡ false
        = completes-by (eqb-eq k) ∙ partner-is P es e.owner e.name m ∙ partnered-any P (λ q. given_before es e.owner q m) e.name _
        ∙ rw (sym (partners-start I e.name (sym (eqb-eq b))) ∙ partners-end P e.name refl) refl in
        rw (none, and_zero (ltb e.owner (length t))) refl)
        (λ b. rw (rw (k, b) at test) refl))
        (λ k. rw (completes-other (eqb-ne k), and_zero (ltb e.owner (length t))) refl)

    pub given-other : counted index (length t) e ≡ false → (false ≡ (ltb e.owner (length t) && completes P es (m + 1))) × GivenTo P es (m + 1) t
    given-other f = (sym (other-completes f), λ o there. marks-more o (marks-beside P (G o there) (other-none f o there)))

    -- one that counts completes a pair where its owner has a partner, and its owner gets its pairs
    pub given-counted : counted index (length t) e ≡ true → {o : ℕ} {s : Sides} → o ≡ e.owner → Marks P (λ q. eqb q e.name) s
        → (excluding (get_or t o no_sides) s ≡ (ltb e.owner (length t) && completes P es (m + 1))) × GivenTo P es (m + 1) (set t o (joined (get_or t o no_sides) s))
    unfolding counted
    given-counted f {o} {s} is N =
        let k : gives_property e ≡ true = and_left (gives_property e) _ f in
        let below : ltb e.owner (length t) ≡ true = and_right (not (eqb (get_or index (bucket_of e.name) 0) 0)) _ (and_right (gives_property e) _ f) in
        let there : o < length t = omega (tests, below, is) in
        let y = joined (get_or t o no_sides) s in (
          excluding-partnered P (λ q. given_before es o q m) e.name (G o there) N
              ∙ ap (λ (x : ℕ). partnered P (λ q. given_before es x q m) e.name (named_count P)) is
              ∙ sym (rw below (completes-by (eqb-eq k)) ∙ partner-is P es e.owner e.name m),
          λ x less. eq-cases x o
              (λ z.
              let own : (q : ℕ) → eqb q e.name ≡ gives_owner x q e = λ q. rw (k, z, is, eqb-self e.owner) refl in
              let here : get_or (set t o y) x no_sides ≡ y = ap (λ (i : ℕ). get_or (set t o y) i no_sides) z ∙ get_or-set_same t o y no_sides there in
              rw here
              (marks-more x (marks-join P (subst (λ (i : ℕ). Marks P (λ q. given_before es x q m) (get_or t i no_sides)) z (G x (rw (length-set t o y) at less))) (marks-same P own N))))
              (λ z.
              let not-own : (q : ℕ) → false ≡ gives_owner x q e = λ q. rw (← is, ne_eqb z, and_zero (gives_property e)) refl in
              rw (get_or-set_other t o x y no_sides z)
              (marks-more x (marks-beside P (G x (rw (length-set t o y) at less)) (marks-same P not-own (marks-none P))))),
        )

-- ---- where all owners are below a number, those below it are all

module _ (P : List ℕ) (es : List Entry) {m n : ℕ} (below : (i : ℕ) → 1 ≤ i → i ≤ n → owner_of es i < m) where
  below-all : (i : ℕ) → 1 ≤ i → i ≤ n → apart_below m P es i ≡ apart_ok P es i
  below-all i lo hi = rw (lt-ltb (below i lo hi)) refl

  pub found-below : (r : Option ℕ) → Finds (apart_below m P es) n r → Finds (apart_ok P es) n r
  found-below None f = sym (first-same (apart_below m P es) (apart_ok P es) 1 n (λ i lo hi. below-all i lo (omega arith))) ∙ f
  found-below (Some k) f = (f.0 ∙ first-same (apart_below m P es) (apart_ok P es) 1 n (λ i lo hi. below-all i lo (omega arith)), f.1, f.2)
