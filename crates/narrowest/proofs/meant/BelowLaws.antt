-- What stands below a link of a place of the result, by its code.
-- Assumes nothing.
use Prim.Native.Nat.{◌%◌, ◌*◌, ◌+◌, ◌/◌, ◌≤◌, ℕ}
use lib.ListN.{get_or, length, length-map}
use mathlib.Core.Bool.{Bool, ◌||◌, false, true, true≢false}
use mathlib.Core.List.{List}
use mathlib.Core.Logic.{◌≢◌}
use mathlib.Core.Path.{◌∙◌, ◌≡◌, ap, refl, sym}
use native.Mathlib.Omega.{arith}
use Rattle.base.proofs.Tests.{bool_cases, eq-cases, eq-eqb, ne_eqb}
use Rattle.blocks.specs.declared.Entry.{Entry}
use Rattle.logic.proofs.NormalForm.IsNormal.{canonical-end}
use Rattle.logic.proofs.PlaceTrees.Lookup.{is-end}
use Rattle.logic.proofs.SpecimenTrees.IncreasingNames.{Increasing}
use Rattle.logic.specs.Background.{LawfulBackground}
use Rattle.logic.specs.Normal.{at_most, find, is_end, sub, supports}
use Rattle.logic.specs.Place.{Place, atom, most}
use Rattle.logic.specs.Tree.{end}
use Rattle.meaning.specs.Description.{place_of}
use Rattle.meaning.specs.Lookup.{entry_for}
use Rattle.narrow.proofs.Joining.JoinMeans.{below-joined, canonical-joined, joins}
use Rattle.narrow.proofs.Joining.JoinParts.{below-none, below-some}
use Rattle.narrow.specs.Join.{joined_below, joined_place, place_below}
use Rattle.narrow_listed.proofs.NamesListed.{excluded-named, names-ascend}
use Rattle.narrow_listed.specs.Listed.{names_in}
use Rattle.narrowest.proofs.meant.EmptySide.{empty-joined}
use Rattle.narrowest.proofs.meant.EveryLaws.{Below, ascending-in, every-none, every-some}
use Rattle.narrowest.specs.code.Codes.{closes, code_below, first_alone, joined_code, mated, place_by, second_alone, tree_by}
use Rattle.narrowest.specs.code.Forms.{Held, entries_in}
use Rattle.narrowest.specs.code.Mates.{Good, GoodCode, Joinable, Mated, Settled, joint_place}
use Rattle.pairs.proofs.Under.{ruled-under}
use Rattle.pairs.specs.Pairs.{pair_count, under}
use Rattle.passes.proofs.Cells.CellsTell.{cap-open}
use Rattle.unfolding.specs.code.Rows.{entry_of_row}

or-false : (x : Bool) → (x || false) ≡ x
or-false true = refl
or-false false = refl

module _ {P a b : List ℕ} (J : Joinable P a b) where
  pub lawful : LawfulBackground (under P)
  lawful = (ruled-under P J.list.list_read).lawful

  pub rising-names : Increasing 0 (names_in P)
  unfolding names_in
  rising-names = names-ascend P (pair_count P)

  module _ (HA : Held a) (HB : Held b) {M F : List ℕ} (m : Mated (entries_in a) (entries_in b) (length (entries_in a)) M) {k : ℕ}
      (S : Settled P (entries_in a) (entries_in b) k M F) where
    abbrev one : List Entry
    one = entries_in a

    abbrev two : List Entry
    two = entries_in b

    few-first : length one ≤ 1008
    few-first = omega (arith, length-map a entry_of_row, HA.few)

    few-second : length two ≤ 1008
    few-second = omega (arith, length-map b entry_of_row, HB.few)

    -- the place below a link is that of the code, if it is not 0
    pub record Leading (V : Place) (code : ℕ) : Type 0 where
      pub none : code ≡ 0 → is_end V ≡ true
      pub some : code ≢ 0 → is_end V ≡ false
      pub tree : code ≢ 0 → V ≡ tree_by P one two code
      pub good : code ≢ 0 → GoodCode P one two M code

    -- ---- the codes of places

    first-tree : (j : ℕ) → j ≢ 0 → tree_by P one two (1024 * j) ≡ place_of one j
    unfolding place_by
    first-tree j z =
        let d : 1024 * j / 1024 ≡ j = omega arith in
        let r : 1024 * j % 1024 ≡ 0 = omega arith in
        rw (d, r, ne_eqb z) refl

    second-tree : (j : ℕ) → j ≢ 0 → j ≤ 1008 → tree_by P one two j ≡ place_of two j
    unfolding place_by
    second-tree j z l =
        let d : j / 1024 ≡ 0 = omega arith in
        let r : j % 1024 ≡ j = omega arith in
        rw (d, r, ne_eqb z) refl

    both-tree : (j n : ℕ) → j ≢ 0 → n ≢ 0 → n ≤ 1008 → tree_by P one two (1024 * j + n) ≡ joint_place P one two j n
    unfolding place_by
    both-tree j n z y l =
        let d : (1024 * j + n) / 1024 ≡ j = omega arith in
        let r : (1024 * j + n) % 1024 ≡ n = omega arith in
        rw (d, r, ne_eqb z, ne_eqb y) refl

    module _ {o s : ℕ} (g : Good P one two M o s) (later : k ≤ o) (l : ℕ) where
      abbrev t : Place
      t = place_of one o

      abbrev u : Place
      u = place_of two s

      -- the first's place stands whole
      whole-first : Leading (sub l t) (1024 * entry_for one o 5 l)
      whole-first =
          let j = entry_for one o 5 l in
          let B : j ≢ 0 → Below (under P) one o l j = λ z. every-some lawful HA.legal o l g.first refl z in
          record {
            none = λ z. every-none lawful HA.legal o l g.first (omega arith);
            some = λ z. (B (λ y. z (omega arith))).some;
            tree = λ z. (B (λ y. z (omega arith))).place ∙ sym (first-tree j (λ y. z (omega arith)));
            good = λ z.
                let e = B (λ y. z (omega arith)) in
                let d : 1024 * j / 1024 ≡ j = omega arith in
                let r : 1024 * j % 1024 ≡ 0 = omega arith in
                rw (d, r) (record { low = e.within; low-second = omega arith; first = e.normal; second = J.second; mate = λ x y. absurd (y refl) });
          }

      -- the second's does
      whole-second : Leading (sub l u) (entry_for two s 5 l)
      whole-second =
          let j = entry_for two s 5 l in
          let B : j ≢ 0 → Below (under P) two s l j = λ z. every-some lawful HB.legal s l g.second refl z in
          record {
            none = λ z. every-none lawful HB.legal s l g.second z;
            some = λ z. (B z).some;
            tree = λ z. (B z).place ∙ sym (second-tree j z (omega (arith, (B z).within, few-second)));
            good = λ z.
                let e = B z in
                let d : j / 1024 ≡ 0 = omega (arith, e.within, few-second) in
                let r : j % 1024 ≡ j = omega (arith, e.within, few-second) in
                rw (d, r) (record { low = omega arith; low-second = e.within; first = J.first; second = e.normal; mate = λ x y. absurd (x refl) });
          }

      -- the two are joined
      module _ (paired : get_or M o 0 ≡ s) (unshut : o ≢ 0 → s ≢ 0) where
        -- the mate of an 'every' of the first
        mate-is : {j : ℕ} → Below (under P) one o l j → get_or M j 0 ≡ entry_for two s 5 l
        mate-is {j} B =
            m.each j (omega (arith, B.later)) B.within
            ∙ rw (B.kind, B.owner, B.name, paired)
            (eq-cases o 0 (λ z. rw (eq-eqb z) refl) (λ z. rw (ne_eqb z, ne_eqb (unshut z)) refl))

        abbrev W : Place
        W = joined_below (under P) (names_in P) t l (sub l u)

        nothing-mated : {code : ℕ} → code ≡ 0 → is_end W ≡ true → Leading W code
        nothing-mated z e = record { none = λ y. e; some = λ y. absurd (y z); tree = λ y. absurd (y z); good = λ y. absurd (y z) }

        -- one with a mate
        both-there : {j n : ℕ} → Below (under P) one o l j → Below (under P) two s l n → get_or M j 0 ≡ n → W ≡ joint_place P one two j n → Leading W (mated F j)
        both-there {j} {n} B C e w =
            let f = S.after j (omega (arith, B.later)) B.within in
            let z : j ≢ 0 = λ y. absurd (omega (arith, B.later)) in
            let y : n ≢ 0 = λ x. absurd (omega (arith, C.later)) in
            bool_cases (is_end (joint_place P one two j n))
            (λ q.
            let i : get_or F j 0 ≡ 0 = f ∙ rw (e, q) refl in
            nothing-mated (rw i refl) (rw w q))
            (λ q.
            let i : get_or F j 0 ≡ n = f ∙ rw (e, q) refl in
            let c : mated F j ≡ 1024 * j + n = rw (i, ne_eqb y) refl in
            let d : (1024 * j + n) / 1024 ≡ j = omega (arith, C.within, few-second) in
            let r : (1024 * j + n) % 1024 ≡ n = omega (arith, C.within, few-second) in
            rw c (record {
              none = λ x. absurd (z (omega arith));
              some = λ x. rw w q;
              tree = λ x. w ∙ sym (both-tree j n z y (omega (arith, C.within, few-second)));
              good = λ x. rw (d, r) (record { low = B.within; low-second = C.within; first = B.normal; second = C.normal; mate = λ p q. e });
            }))

        both-joined : Leading W (mated F (entry_for one o 5 l))
        both-joined =
            let j = entry_for one o 5 l in
            eq-cases j 0
            (λ z.
            let y = every-none lawful HA.legal o l g.first z in
            nothing-mated (rw (z, S.top) refl) (ap is_end (below-none (under P) (names_in P) t l (sub l u) (ascending-in g.first) y)))
            (λ z.
            let B : Below (under P) one o l j = every-some lawful HA.legal o l g.first refl z in
            let w : W ≡ joined_place (under P) (names_in P) (place_of one j) (sub l u) = below-some (under P) (names_in P) t l (sub l u) B.some ∙ rw B.place refl in
            let i = mate-is B in
            eq-cases (entry_for two s 5 l) 0
            (λ y.
            let e : sub l u ≡ end = is-end (sub l u) (every-none lawful HB.legal s l g.second y) in
            let f : get_or F j 0 ≡ 0 = S.after j (omega (arith, B.later)) B.within ∙ rw (i, y) (bool_cases (is_end (joint_place P one two j 0)) (λ x. rw x refl) (λ x. rw x refl)) in
            let n : joined_place (under P) (names_in P) (place_of one j) end ≡ end
            = empty-joined lawful (joins lawful (names_in P) rising-names (excluded-named P) (place_of one j) end B.normal (canonical-end lawful)) refl
            (canonical-joined lawful (names_in P) rising-names (excluded-named P) (place_of one j) end B.normal (canonical-end lawful)) in
            let v : W ≡ end = w ∙ ap (joined_place (under P) (names_in P) (place_of one j)) e ∙ n in
            nothing-mated (rw f refl) (ap is_end v))
            (λ y.
            let C : Below (under P) two s l (entry_for two s 5 l) = every-some lawful HB.legal s l g.second refl y in
            both-there B C i (w ∙ rw C.place refl)))

      -- ---- by the ways to a code

      supports-closed : (v : Place) → supports (under P) v (atom most l 0) ≡ closes l v
      supports-closed v = rw (cap-open lawful l) (or-false (at_most 0 (find most l v)))

      abbrev V : Place
      V = place_below (under P) t u l (joined_below (under P) (names_in P) t l (sub l u))

      joined-leads : first_alone o s ≡ false → second_alone o s ≡ false → Leading V (joined_code one two F o s l)
      unfolding joined_code
      joined-leads e f =
          let paired : get_or M o 0 ≡ s
          = eq-cases o 0
          (λ z. eq-cases s 0
          (λ y. rw (z, y) m.top)
          (λ y. absurd (true≢false (rw (eq-eqb z, ne_eqb y) at f))))
          (λ z. eq-cases s 0
          (λ y. absurd (true≢false (rw (ne_eqb z, eq-eqb y) at e)))
          (λ y. g.mate z y)) in
          let unshut : o ≢ 0 → s ≢ 0 = λ z y. true≢false (rw (ne_eqb z, eq-eqb y) at e) in
          bool_cases (closes l u)
          (λ q. rw (supports-closed u, q) whole-first)
          (λ q. bool_cases (closes l t)
          (λ p. rw (supports-closed u, supports-closed t, q, p) whole-second)
          (λ p. rw (supports-closed u, supports-closed t, q, p) (both-joined paired unshut)))

      pub leading : Leading (sub l (place_by P one two o s)) (code_below one two F o s l)
      unfolding place_by code_below
      leading =
          bool_cases (first_alone o s)
          (λ e. rw e whole-first)
          (λ e. bool_cases (second_alone o s)
          (λ f. rw (e, f) whole-second)
          (λ f. rw (e, f) (rw (below-joined lawful (names_in P) rising-names (excluded-named P) t u g.first g.second l) (joined-leads e f))))
