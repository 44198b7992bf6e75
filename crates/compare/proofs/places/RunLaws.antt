-- The tags that are gathered of a place and class, with that of a name that is asked for, are those of the names that the place lists and of
-- that name.
-- Assumes nothing.
use Prim.Native.Nat.{◌*◌, ◌+◌, ◌<◌, ◌≤◌, ℕ}
use lib.Dec.{eqb}
use lib.ListN.{get_or}
use mathlib.Core.Bool.{Bool, ◌||◌, false, not, true}
use mathlib.Core.List.Memᴰ
use mathlib.Core.List.{List, Memᴰ, [], ◌++◌, ◌∷◌, append-nil, map, map-append}
use mathlib.Core.Logic.{◌≢◌, ⊎_elim}
use mathlib.Core.Path.{◌∙◌, ◌≡◌, ap, refl, sym}
use native.Mathlib.Omega.{arith}
use Rattle.base.proofs.AscendingLaws.{AllApart}
use Rattle.base.proofs.Missing.{not-true}
use Rattle.base.proofs.Split.{place_of, row_of}
use Rattle.base.proofs.Tests.{bool_cases, eq-cases, eq-eqb, eqb-eq, ne_eqb, tests}
use Rattle.base.specs.Range.{bit}
use Rattle.compare.proofs.places.TagRuns.{Tag, member_of, of-member, run-sorted}
use Rattle.compare.specs.code.Tags.{Run, extra_tag, tag_name, tag_slot, tag_unless}
use Rattle.logic.specs.Normal.{find, found}
use Rattle.logic.specs.Place.{Kind, has, least}
use Rattle.logic.specs.Witness.{member}
use Rattle.passes.specs.code.Keys.{key_number}
use Rattle.passes.specs.code.Slots.{is_link}
use Rattle.runs.proofs.TagsListed.{TagFrom, lower-trans, lower_name, tag-from, tag-holds-name, tag-holds-slot, tag-listed, tag-name-is, tags-apart}
use Rattle.runs.specs.code.Chained.{run_at, slot_name}
use Rattle.runs.specs.code.Tagged.{tags_down}
use Rattle.slots.proofs.HoldingLaws.{slot_small}
use Rattle.slots.proofs.TableSearch.{slot-found, slot-key, slots-many}
use Rattle.slots.specs.code.TablePlaces.{Stood, all_slots, least_in, place_in, slot_by, used_in}
use Rattle.slots.specs.code.Tables.{key_in, low_part}
use Rattle.sorting.proofs.Rising.{Different}
use Rattle.sorting.specs.Sorted.{sorted}

-- ---- lists

-- numbers that stand in some order are different
apart-different : (q : List ℕ) → AllApart lower_name lower-trans q → Different q
apart-different [] a = tt
apart-different (x ∷ q) a = ((λ y m e. let h = a.0 y m in bool_cases (lower_name x y) (λ i. omega tests) (λ i. let j = h i in omega tests)), apart-different q a.1)

-- with one more that is none of them
one_more : (q : List ℕ) (e : ℕ) → Different q → ((x : ℕ) → Memᴰ x q → x ≢ e) → Different (q ++ (e ∷ []))
one_more [] e d f = ((λ y m. absurd (Memᴰ.not-nil m)), tt)
one_more (x ∷ q) e d f = (
  (λ y m i. ⊎_elim (λ k. d.0 y k i) (λ k. f x (Memᴰ.head refl) (i ∙ Memᴰ.eq_of_singleton k)) (Memᴰ.append_cases q m)),
  one_more q e d.1 (λ y m. f y (Memᴰ.tail m)),
)

-- members of two lists in a row
member-append : (x : ℕ) (q r : List ℕ) → member x (q ++ r) ≡ (member x q || member x r)
unfolding member
member-append x [] r = refl
member-append x (y ∷ q) r = rw (member-append x q r) (sym (or_assoc (eqb x y) (member x q) (member x r)))
  where
    or_assoc : (a b c : Bool) → ((a || b) || c) ≡ (a || (b || c))
    or_assoc true b c = refl
    or_assoc false b c = refl

-- ---- the tags of a place and class

module _ {t : List ℕ} (S : Stood t) (v : ℕ) (b : Bool) where
  -- the tags that are gathered
  abbrev pub listed_tags : List ℕ
  listed_tags = tags_down t (2 * v + bit b) 1 (used_in t)

  few : used_in t ≤ 1008
  few = omega (arith, S.few)

  -- a slot of this place and class has the key of its name
  key-name : (j : ℕ) → run_at t j ≡ 2 * v + bit b → key_in (get_or t j 0) ≡ key_number v b (slot_name (get_or t j 0))
  unfolding key_number
  key-name j e = omega (arith, e)

  -- the slot of its name is its own
  name-slot : {j : ℕ} → 1 ≤ j → j ≤ used_in t → run_at t j ≡ 2 * v + bit b → slot_by t v b (slot_name (get_or t j 0)) ≡ j
  name-slot {j} lo hi e = slot-found t (used_in t) S.apart v b (slot_name (get_or t j 0)) (omega arith) lo hi (key-name j e)

  tag-from-is : {x : ℕ} (T : TagFrom t (2 * v + bit b) 1 (used_in t) x) → slot_by t v b (tag_name x) ≡ T.at
  tag-from-is T = ap (slot_by t v b) (tag-holds-name t (2 * v + bit b) 1 (used_in t) few T) ∙ name-slot T.from T.to T.run

  listed-tag : (x : ℕ) → Memᴰ x listed_tags → Tag t v b x
  listed-tag x m =
      let T = tag-from t (2 * v + bit b) 1 (used_in t) x m in
      record {
        slot = tag-holds-slot t (2 * v + bit b) 1 (used_in t) few T ∙ sym (tag-from-is T);
        small = rw (tag-holds-name t (2 * v + bit b) 1 (used_in t) few T) (omega arith);
      }

  -- a slot's at least, where there is a slot
  least_at : {j : ℕ} → j ≢ 0 → least_in t j ≡ low_part (get_or t j 0)
  unfolding least_in
  least_at z = rw (ne_eqb z)

  -- the slots of the gathered tags say at least 1
  listed-least : (x : ℕ) → Memᴰ x listed_tags → 1 ≤ least_in t (slot_by t v b (tag_name x))
  listed-least x m =
      let T = tag-from t (2 * v + bit b) 1 (used_in t) x m in
      rw (tag-from-is T, least_at {j = T.at} (λ z. omega (arith, T.from))) T.enough

  -- and no others do
  least-listed : (n : ℕ) → least_in t (slot_by t v b n) ≢ 0 → Memᴰ n (map tag_name listed_tags)
  unfolding key_number
  least-listed n h =
      let s : ℕ = slot_by t v b n in
      let z : s ≢ 0 = λ q. h (rw q (unfold least_in in refl)) in
      let k = slot-key t (used_in t) S.apart v b n z in
      let run : run_at t s ≡ 2 * v + bit b = omega (arith, k.1, k.2) in
      let name : slot_name (get_or t s 0) ≡ n = omega (arith, k.1, k.2) in
      let low : 1 ≤ low_part (get_or t s 0) = rw (← (least_at z)) (omega arith) in
      Memᴰ.cast (sym name ∙ sym (tag-name-is (get_or t s 0) (omega (arith, k.0, few))))
      (Memᴰ.map tag_name (tag-listed t (2 * v + bit b) 1 (used_in t) s (omega arith) k.0 run low))

  listed-names : (n : ℕ) → member n (map tag_name listed_tags) ≡ not (eqb (least_in t (slot_by t v b n)) 0)
  listed-names n =
      eq-cases (least_in t (slot_by t v b n)) 0
      (λ z. rw (eq-eqb z) (not-true (λ q.
      let m = Memᴰ.of_map tag_name listed_tags (member_of n (map tag_name listed_tags) q) in
      omega (arith, z, rw m.2 at (listed-least m.0 m.1)))))
      (λ z. rw (ne_eqb z) (of-member n (map tag_name listed_tags) (least-listed n z)))

  tags-different : Different listed_tags
  tags-different = apart-different listed_tags (tags-apart t (2 * v + bit b) 1 (used_in t) few S.apart)

  -- ---- a name that is asked for

  module _ {p : ℕ} (small : p < 65536) where
    slot-fits : slot_by t v b p < 1024
    slot-fits = omega (arith, slot_small (all_slots t) v b p, slots-many t 1 (used_in t), few)

    extra-name : tag_name (1024 * p + slot_by t v b p) ≡ p
    extra-name = row_of {r = 1024} p (slot_by t v b p) slot-fits

    extra-slot : tag_slot (1024 * p + slot_by t v b p) ≡ slot_by t v b p
    extra-slot = place_of {r = 1024} p (slot_by t v b p) slot-fits

    extra-tag : Tag t v b (1024 * p + slot_by t v b p)
    extra-tag = record { slot = extra-slot ∙ ap (slot_by t v b) (sym extra-name); small = rw extra-name small }

    asked-tag : (x : ℕ) → Memᴰ x (listed_tags ++ extra_tag t v b p) → Tag t v b x
    unfolding tag_unless
    asked-tag x m =
        bool_cases (eqb (least_in t (slot_by t v b p)) 0)
        (λ q. ⊎_elim (λ i. listed-tag x i) (λ i. let e : x ≡ 1024 * p + slot_by t v b p = Memᴰ.eq_of_singleton i in rw e extra-tag) (Memᴰ.append_cases listed_tags (rw q at m)))
        (λ q. listed-tag x (rw (q, append-nil listed_tags) at m))

    asked-different : Different (listed_tags ++ extra_tag t v b p)
    unfolding tag_unless
    asked-different =
        bool_cases (eqb (least_in t (slot_by t v b p)) 0)
        (λ q. rw q (one_more listed_tags (1024 * p + slot_by t v b p) tags-different
        (λ x m e. let lo : least_in t (slot_by t v b p) ≡ 0 = eqb-eq q in omega (arith, lo, rw (e, extra-name) at (listed-least x m)))))
        (λ q. rw (q, append-nil) tags-different)

    asked-names : (n : ℕ) → member n (map tag_name (listed_tags ++ extra_tag t v b p)) ≡ (not (eqb (least_in t (slot_by t v b n)) 0) || member n (p ∷ []))
    unfolding tag_unless member
    asked-names n =
        bool_cases (eqb (least_in t (slot_by t v b p)) 0)
        (λ q. rw (q, map-append, member-append, listed-names n, extra-name))
        (λ q. rw (q, append-nil, listed-names n)
        (eq-cases n p
        (λ e. rw (e, q))
        (λ e. rw (ne_eqb e) (bool_cases (not (eqb (least_in t (slot_by t v b n)) 0)) (λ y. rw y) (λ y. rw y)))))

-- ---- the runs

-- the kinds whose names a specimen takes over: 'has', and 'at least'
pub listed_by : {t : List ℕ} → Stood t → (v n : ℕ) → (found (find has n (place_in t v)) ≡ not (eqb (least_in t (slot_by t v false n)) 0))
    × (found (find least n (place_in t v)) ≡ not (eqb (least_in t (slot_by t v true n)) 0))
listed_by {t} S v n =
    let lo : ℕ = least_in t (slot_by t v false n) in
    let lo' : ℕ = least_in t (slot_by t v true n) in (
      rw (S.lists v has n) (bool_cases (eqb lo 0) (λ z. rw z) (λ z. rw z)),
      rw (S.lists v least n) (bool_cases (eqb lo' 0) (λ z. rw z) (λ z. rw z)),
    )

module _ {t : List ℕ} (S : Stood t) (v : ℕ) (a : Kind) (by : (n : ℕ) → found (find a n (place_in t v)) ≡ not (eqb (least_in t (slot_by t v (is_link a) n)) 0)) where
  -- where nothing is asked for
  pub run-listed : Run t v a [] (sorted (listed_tags S v (is_link a)))
  unfolding member
  run-listed =
      run-sorted t v a [] (listed_tags S v (is_link a)) (tags-different S v (is_link a)) (listed-tag S v (is_link a))
      (λ n. listed-names S v (is_link a) n ∙ rw (by n) (sym (or-zero (not (eqb (least_in t (slot_by t v (is_link a) n)) 0))))) tt
    where
      or-zero : (x : Bool) → (x || false) ≡ x
      or-zero true = refl
      or-zero false = refl

  -- where p is
  pub run-asked : (p : ℕ) → p < 65536 → Run t v a (p ∷ []) (sorted (listed_tags S v (is_link a) ++ extra_tag t v (is_link a) p))
  run-asked p small =
      run-sorted t v a (p ∷ []) (listed_tags S v (is_link a) ++ extra_tag t v (is_link a) p) (asked-different S v (is_link a) small) (asked-tag S v (is_link a) small)
      (λ n. asked-names S v (is_link a) small n ∙ rw (by n)) (omega arith, tt)
