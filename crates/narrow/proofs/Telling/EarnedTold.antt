-- Where no two entries of C clash: what earns the yes is found entry by entry of D, in one walk over C from the last
-- entry to the first: an entry is marked exactly if it is the first to say, by itself, an entry of D that no marked one
-- after it says.
-- Assumes nothing.
use Prim.Native.Nat.{◌≤◌, suc, zero, ℕ}
use lib.Dec.{eqb}
use lib.ListN.{length}
use mathlib.Core.Bool.{Bool, ◌&&◌, false, not, true}
use mathlib.Core.List.{List, map}
use mathlib.Core.Logic.{◌≢◌, ◌↔◌, inl, inr, ⊎_elim}
use mathlib.Core.Path.{◌≡◌, refl}
use native.Mathlib.Omega.{arith}
use Rattle.base.proofs.Tests.{and_both, and_left, and_right, bool_cases, both_ways, eq-cases, eq-eqb, eqb-eq, eqb-ne, false_of_not, ne_eqb, not-to-true}
use Rattle.blocks.specs.Entries.{nth}
use Rattle.blocks.specs.Promise.{Legal}
use Rattle.blocks.specs.declared.Entry.{Entry}
use Rattle.blocks.specs.declared.Schema.TheVariants.{Description}
use Rattle.logic.specs.Background.{Background, LawfulBackground}
use Rattle.logic.specs.Normal.{supports}
use Rattle.logic.specs.Tree.{end}
use Rattle.meaning.proofs.Verdicts.Contained.{entry-entailed}
use Rattle.meaning.proofs.Verdicts.FirstLaws.{failing-none, none-failing}
use Rattle.meaning.specs.Description.{atom_of, links_to, place_of, row_of}
use Rattle.meaning.specs.Failing.{failing, normal_of}
use Rattle.meaning.specs.First.{entry_holds}
use Rattle.narrow.proofs.Keeping.Answered.{after, kept-taken, kept-wanted, some-to, to-some}
use Rattle.narrow.proofs.Keeping.Earning.{all-sayers}
use Rattle.narrow.proofs.Telling.EntriesTold.{Peaceful}
use Rattle.narrow.proofs.Telling.SlotWalks.{slots-peaceful}
use Rattle.narrow.proofs.Telling.ThinnedTold.{ToldKept, thinned-told}
use Rattle.narrow.specs.Earned.{earned, earners, sayers, suffices}
use Rattle.narrow.specs.Keeping.{marked, owns_kept, thinned}
use Rattle.narrow.specs.Tellers.{answered, asks, speakers, teller, wanted}
use Rattle.narrow.specs.Told.{tells}
use Rattle.passes.specs.code.Restrict.{slots_under}
use Rattle.passes.specs.code.Slots.{inconsistent}

module _ {b : Background} (law : LawfulBackground b) (c d : List Entry) (C : Legal Description c) (D : Legal Description d) where
  module _ (P : Peaceful b c) where
    -- an entry of D that asks something, C with these entries alone says exactly if one of them says it
    module _ (K : ℕ → Bool) (j : ℕ) where
      kept-said : ToldKept law c C K (links_to d j) (atom_of (nth d j)) → answered (teller b c d) (length c) K j ≡ true
      unfolding teller
      kept-said t =
          some-to (λ k. K k && teller b c d j k) (length c) t.entry t.from_one t.to_last
          (and_both t.kept (and_both (not-to-true (ne_eqb t.kind)) t.telling))

      said-kept : answered (teller b c d) (length c) K j ≡ true → ToldKept law c C K (links_to d j) (atom_of (nth d j))
      unfolding teller
      said-kept e =
          let r = to-some (λ k. K k && teller b c d j k) (length c) e in
          let k : ℕ = r.number in
          let t : teller b c d j k ≡ true = and_right (K k) (teller b c d j k) r.holds in
          let five : Bool = not (eqb (nth c k).kind 5) in
          let says : Bool = tells b (links_to c k) (atom_of (nth c k)) (links_to d j) (atom_of (nth d j)) in
          record {
            entry = k;
            from_one = r.from_one;
            to_last = r.to_last;
            kind = eqb-ne (false_of_not (eqb (nth c k).kind 5) (and_left five says t));
            kept = and_left (K k) (teller b c d j k) r.holds;
            telling = and_right five says t;
          }

    -- where one of them says each, each holds
    holds : (K : ℕ → Bool) → ((j : ℕ) → 1 ≤ j → j ≤ length d → asks b d j ≡ true → answered (teller b c d) (length c) K j ≡ true)
        → (j : ℕ) → 1 ≤ j → j ≤ length d → entry_holds b (normal_of b (thinned K 1 c)) d j ≡ true
    unfolding asks normal_of entry_holds
    holds K f j lo hi =
        eq-cases (nth d j).kind 5
        (λ z. rw (eq-eqb z))
        (λ z. (entry-entailed law (place_of (thinned K 1 c) 0) d j z).1 ((thinned-told law c C K P (links_to d j) (atom_of (nth d j))).1
        (bool_cases (supports b end (atom_of (nth d j)))
        (λ q. inl q)
        (λ q. inr (said-kept K j (f j lo hi (and_both (not-to-true (ne_eqb z)) (not-to-true q))))))))

    -- C with these entries alone is contained in D exactly if one of them says each entry of D that asks something
    pub suffices-told : (K : ℕ → Bool) → (suffices b c d K ≡ true)
        ↔ ((j : ℕ) → 1 ≤ j → j ≤ length d → asks b d j ≡ true → answered (teller b c d) (length c) K j ≡ true)
    unfolding failing normal_of asks
    suffices-told K = (
      λ e j lo hi a.
          let z : (nth d j).kind ≢ 5 = eqb-ne (false_of_not (eqb (nth d j).kind 5) (and_left (not (eqb (nth d j).kind 5)) (not (supports b end (atom_of (nth d j)))) a)) in
          let h : entry_holds b (normal_of b (thinned K 1 c)) d j ≡ true = failing-none b (normal_of b (thinned K 1 c)) d (eqb-eq e) j lo hi in
          ⊎_elim
          (λ v. both_ways v (false_of_not _ (and_right (not (eqb (nth d j).kind 5)) (not (supports b end (atom_of (nth d j)))) a)))
          (λ v. kept-said K j v)
          ((thinned-told law c C K P (links_to d j) (atom_of (nth d j))).0 ((entry-entailed law (place_of (thinned K 1 c) 0) d j z).0 h)),
      λ f. eq-eqb (none-failing b (normal_of b (thinned K 1 c)) d (holds K f)),
    )

    -- what says something by itself is no 'every'
    teller-says : (j k : ℕ) → teller b c d j k ≡ true → sayers c k ≡ true
    unfolding teller
    teller-says j k e = and_left (not (eqb (nth c k).kind 5)) (tells b (links_to c k) (atom_of (nth c k)) (links_to d j) (atom_of (nth d j))) e

    module _ (e : failing b c d ≡ 0) where
      -- an entry is left exactly if it is the first to say an entry of D that none which is left after it says
      pub earners-wanted : (n : ℕ) → 1 ≤ n → n ≤ length c
          → earners b c d n ≡ wanted (asks b d) (teller b c d) (length c) (length d) (after n (earners b c d)) n
      unfolding earners
      earners-wanted n lo hi =
          kept-wanted (suffices b c d) (asks b d) (teller b c d) (length c) (length d) suffices-told (sayers c) teller-says (all-sayers law c d C D e) n lo hi

      -- so the entries that are left are found in one walk
      pub earners-told : (n : ℕ) → 1 ≤ n → n ≤ length c → earners b c d n ≡ speakers b c d n
      unfolding earners speakers
      earners-told n lo hi =
          kept-taken (suffices b c d) (asks b d) (teller b c d) (length c) (length d) suffices-told (sayers c) teller-says (all-sayers law c d C D e) n lo hi

      owns-same : (n m : ℕ) → m ≤ length c → owns_kept (earners b c d) c n m ≡ owns_kept (speakers b c d) c n m
      unfolding owns_kept
      owns-same n zero h = refl
      owns-same n (suc m) h = rw (earners-told (suc m) (omega arith) h, owns-same n m (omega arith))

      -- with their owners
      pub earned-told : (n : ℕ) → 1 ≤ n → n ≤ length c → earned b c d n ≡ marked (speakers b c d) c n
      unfolding earned
      earned-told n lo hi =
          rw (earners-told n lo hi, owns-same n (length c) (omega arith))

  -- where no place of C's slots is inconsistent, no two of its entries clash
  pub earned-slots : ((v : ℕ) → inconsistent 1 (slots_under b (map row_of c)) v ≡ false) → failing b c d ≡ 0
      → (n : ℕ) → 1 ≤ n → n ≤ length c → earned b c d n ≡ marked (speakers b c d) c n
  earned-slots h e n lo hi = earned-told (slots-peaceful c C b h) e n lo hi
