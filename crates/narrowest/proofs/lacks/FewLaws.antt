-- How many lacks are noted: one for each lack that the first place lists, and one for each property beside one that it has in the list of pairs.
-- Assumes nothing.
use Prim.Native.Nat.{◌+◌, ◌<◌, ◌≤◌, suc, zero, ℕ}
use lib.Dec.{eqb}
use lib.ListN.{get_or, length, length-append, length-map}
use mathlib.Core.Bool.{cond, false, false≢true, true}
use mathlib.Core.List.{List, [], ◌∷◌}
use mathlib.Core.Logic.{◌≢◌}
use mathlib.Core.Path.{◌≡◌, refl}
use native.Mathlib.Omega.{arith}
use Rattle.base.proofs.Tests.{bool_cases, eq-cases, eq-eqb, eqb-eq, ne_eqb, neither_left, neither_right, or_cases}
use Rattle.blocks.specs.declared.Entry.{Entry}
use Rattle.logic.proofs.SpecimenTrees.Names.{Different}
use Rattle.logic.specs.Place.{Place}
use Rattle.logic.specs.Witness.{member}
use Rattle.narrowest.specs.code.Forms.{Held, entries_in, key_for, key_in, owned_by}
use Rattle.narrowest.specs.code.Lacks.{lack_if, lacks_of, lists_lack}
use Rattle.pairs.specs.code.Index.{named_at, named_count, partners}
use Rattle.std.specs.List.{flat_map}
use Rattle.unfolding.specs.code.Rows.{entry_of_row}

-- the properties of entries
unfoldable had : List Entry → List ℕ
had [] = []
had (e ∷ es) = cond (eqb e.kind 1) (e.name ∷ had es) (had es)

module _ (P : List ℕ) where
  -- how many stand beside each of some
  unfoldable beside_all : List ℕ → ℕ → ℕ
  beside_all [] n = 0
  beside_all (q ∷ qs) n = length (partners P q n) + beside_all qs n

  beside-none : (qs : List ℕ) → beside_all qs 0 ≡ 0
  unfolding beside_all partners
  beside-none [] = refl
  beside-none (q ∷ qs) = omega (arith, beside-none qs)

  -- a number of the list stands beside one of them at most
  beside-same : (qs : List ℕ) (n : ℕ) → member (named_at P (suc n)) qs ≡ false → beside_all qs (suc n) ≡ beside_all qs n
  unfolding beside_all partners member
  beside-same [] n e = refl
  beside-same (q ∷ qs) n e =
      let p = named_at P (suc n) in
      let z : eqb p q ≡ false = neither_left (eqb p q) (member p qs) e in
      rw (z, beside-same qs n (neither_right (eqb p q) (member p qs) e)) refl

  beside-more : (qs : List ℕ) (n : ℕ) → Different qs → beside_all qs (suc n) ≤ suc (beside_all qs n)
  unfolding beside_all partners
  beside-more [] n d = omega arith
  beside-more (q ∷ qs) n d =
      let p = named_at P (suc n) in
      bool_cases (eqb p q)
      (λ z.
      let i : p ≡ q = eqb-eq z in
      let s = beside-same qs n (rw (← i) at d.0) in
      rw z (omega (arith, s)))
      (λ z. rw z (omega (arith, beside-more qs n d.1)))

  beside-most : (qs : List ℕ) (n : ℕ) → Different qs → beside_all qs n ≤ n
  beside-most qs zero d = omega (arith, beside-none qs)
  beside-most qs (suc n) d = omega (arith, beside-more qs n d, beside-most qs n d)

  module _ (t u : Place) where
    one-few : (p : ℕ) → length (lack_if P t u p) ≤ 1
    unfolding lack_if
    one-few p = bool_cases (lists_lack P t u p) (λ z. rw z (omega arith)) (λ z. rw z (omega arith))

    each-few : (qs : List ℕ) → length (flat_map (lack_if P t u) qs) ≤ length qs
    each-few [] = omega arith
    each-few (q ∷ qs) = omega (arith, length-append (lack_if P t u q) (flat_map (lack_if P t u) qs), one-few q, each-few qs)

    lack-few : (e : Entry) → e.kind ≡ 2 → length (lacks_of P t u e) ≤ 1
    unfolding lacks_of
    lack-few e q = rw (eq-eqb q) (one-few e.name)

    has-few : (e : Entry) → e.kind ≡ 1 → length (lacks_of P t u e) ≤ length (partners P e.name (named_count P))
    unfolding lacks_of
    has-few e q =
        let z : eqb e.kind 2 ≡ false = ne_eqb (λ y. absurd (omega (arith, q, y))) in
        rw (z, eq-eqb q) (each-few (partners P e.name (named_count P)))

    other-few : (e : Entry) → e.kind ≢ 2 → e.kind ≢ 1 → length (lacks_of P t u e) ≤ 0
    unfolding lacks_of
    other-few e y z = rw (ne_eqb y, ne_eqb z) (omega arith)

    noted-few : (es : List Entry) → length (flat_map (lacks_of P t u) es) ≤ length es + beside_all (had es) (named_count P)
    unfolding had beside_all
    noted-few [] = omega arith
    noted-few (e ∷ es) =
        let ih = noted-few es in
        let n = length-append (lacks_of P t u e) (flat_map (lacks_of P t u) es) in
        eq-cases e.kind 2
        (λ q.
        let z : eqb e.kind 1 ≡ false = ne_eqb (λ y. absurd (omega (arith, q, y))) in
        rw z (omega (arith, n, lack-few e q, ih)))
        (λ q.
        eq-cases e.kind 1
        (λ y.
        rw (eq-eqb y) (omega (arith, n, has-few e y, ih)))
        (λ y. rw (ne_eqb y) (omega (arith, n, other-few e q y, ih))))

-- ---- properties of one place are different

Rising : List ℕ → Type 0
Rising rows = (i j : ℕ) → i < j → j < length rows → key_in (get_or rows i 0) < key_in (get_or rows j 0)

-- one that is there has its entry
had-entry : (o p : ℕ) (rows : List ℕ) → member p (had (owned_by o (entries_in rows))) ≡ true → {A : Type 0}
    → ((i : ℕ) → i < length rows → key_in (get_or rows i 0) ≡ key_for o 1 p → A) → A
unfolding had owned_by member key_in
had-entry o p [] e f = absurd (false≢true e)
had-entry o p (x ∷ rows) e f =
    let later : member p (had (owned_by o (entries_in rows))) ≡ true → _ = λ h. had-entry o p rows h (λ i l k. f (suc i) (omega arith) k) in
    bool_cases (eqb o (entry_of_row x).owner)
    (λ y. bool_cases (eqb (entry_of_row x).kind 1)
    (λ z.
    or_cases (eqb p (entry_of_row x).name) (member p (had (owned_by o (entries_in rows)))) (rw (y, z) at e)
    (λ q.
    let a = eqb-eq y in
    let b = eqb-eq z in
    let c = eqb-eq q in
    f 0 (omega arith) (omega (arith, a, b, c)))
    later)
    (λ z. later (rw (y, z) at e)))
    (λ y. later (rw y at e))

had-different : (o : ℕ) (rows : List ℕ) → Rising rows → Different (had (owned_by o (entries_in rows)))
unfolding had owned_by Rising
had-different o [] h = tt
had-different o (x ∷ rows) h =
    let ih = had-different o rows (unfold Rising in λ i j l m. h (suc i) (suc j) (omega arith) (omega arith)) in
    bool_cases (eqb o (entry_of_row x).owner)
    (λ y. bool_cases (eqb (entry_of_row x).kind 1)
    (λ z.
    rw (y, z) (
      bool_cases (member (entry_of_row x).name (had (owned_by o (entries_in rows))))
          (λ q.
          had-entry o (entry_of_row x).name rows q (λ i l k.
          let a = eqb-eq y in
          let b = eqb-eq z in
          let own : key_in x ≡ key_for o 1 (entry_of_row x).name = unfold key_in in omega (arith, a, b) in
          let up = h 0 (suc i) (omega arith) (omega arith) in
          absurd (omega (arith, own, k, up))))
          (λ q. q),
      ih,
    ))
    (λ z. rw (y, z) ih))
    (λ y. rw y ih)

owned-fewer : (o : ℕ) (es : List Entry) → length (owned_by o es) ≤ length es
unfolding owned_by
owned-fewer o [] = omega arith
owned-fewer o (e ∷ es) = bool_cases (eqb o e.owner) (λ y. rw y (omega (arith, owned-fewer o es))) (λ y. rw y (omega (arith, owned-fewer o es)))

-- a table of 1,136 numbers has room
pub lacks-few : (P : List ℕ) (t u : Place) {rows : List ℕ} (o : ℕ) → Held rows → named_count P ≤ 128 → length (flat_map (lacks_of P t u) (owned_by o (entries_in rows))) ≤ 1136
lacks-few P t u {rows} o H l =
    omega (
      arith,
      noted-few P t u (owned_by o (entries_in rows)),
      owned-fewer o (entries_in rows),
      length-map rows entry_of_row,
      H.few,
      beside-most P (had (owned_by o (entries_in rows))) (named_count P) (had-different o rows (unfold Rising in H.rising)),
      l,
    )
