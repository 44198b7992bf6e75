-- Numbers that are noted, some done and the rest to do.
-- Assumes nothing.
use Prim.Native.Nat.{◌%◌, ◌+◌, ◌<◌, ◌≤◌, suc, ℕ}
use lib.ListN.{drop, drop_of_length-le, get_or, length}
use lib.Seq.{drop-cons}
use mathlib.Core.Bool.{false, true}
use mathlib.Core.List.{List, [], ◌++◌, ◌∷◌, append_assoc, append-nil, map, map-append}
use mathlib.Core.Logic.{◌≢◌}
use mathlib.Core.Path.{◌∙◌, ◌≡◌, ap, refl, sym}
use native.Mathlib.Numerals.{add-one}
use native.Mathlib.Omega.{arith}
use Rattle.base.proofs.Tests.{eq-eqb, ne_eqb}
use Rattle.blocks.specs.declared.Entry.{Entry}
use Rattle.logic.specs.Laying.{leaf_rows}
use Rattle.logic.specs.Place.{Atom, Place, atom, lacks}
use Rattle.logic.specs.Tree.{leaf_row}
use Rattle.narrowest.proofs.rows.CountLaws.{counted-as, counted-none, counted_more, numbers-append}
use Rattle.narrowest.specs.code.Lacks.{apart, lack_if, lack_numbers, lacks_of, lists_lack, next_apart}
use Rattle.narrowest.specs.code.Pushes.{Counted, leaf_numbers, row_number}
use Rattle.pairs.specs.code.Index.{named_count, partners}
use Rattle.std.specs.List.{flat_map}

-- ---- some done, and the rest to do

pub record Part (w : ℕ) (a : List ℕ) (i : ℕ) (whole b : List ℕ) (j : ℕ) (rest : List ℕ) : Type 0 where
  pub done : List ℕ
  pub counted : Counted w a i done b j
  pub parts : whole ≡ done ++ rest

pub part-start : {a : List ℕ} {i : ℕ} {whole rest : List ℕ} → i ≤ length a + 1 → whole ≡ rest → Part (length a) a i whole a i rest
part-start l e = record { done = []; counted = counted-none refl l; parts = e }

pub part-more : {w : ℕ} {a b c : List ℕ} {i j k : ℕ} {whole rest rest' : List ℕ} (M : List ℕ) → Part w a i whole b j rest → rest ≡ M ++ rest'
    → Counted (length b) b j M c k → Part w a i whole c k rest'
part-more M p e q =
    record {
      done = p.done ++ M;
      counted = counted_more p.done M p.counted (counted-as q p.counted.size refl);
      parts = p.parts ∙ rw (e, append_assoc p.done M) refl;
    }

pub part-done : {w : ℕ} {a b : List ℕ} {i j : ℕ} {whole rest : List ℕ} → Part w a i whole b j rest → rest ≡ [] → Counted w a i whole b j
part-done p e = counted-as p.counted refl (sym (p.parts ∙ rw (e, append-nil p.done) refl))

-- ---- lacks

module _ (P : List ℕ) (t u : Place) where
  pub lack-listed : (p : ℕ) → lists_lack P t u p ≡ true → p ∷ [] ≡ lack_if P t u p
  unfolding lack_if
  lack-listed p e = rw e refl

  pub lack_none : {rows : List ℕ} {n : ℕ} (p : ℕ) → n ≤ length rows + 1 → lists_lack P t u p ≡ false → Counted (length rows) rows n (lack_if P t u p) rows n
  unfolding lack_if
  lack_none p l e = rw e (counted-none refl l)

  -- what an entry leads to, by its kind
  pub entry-lacks : (e : Entry) → e.kind ≡ 2 → lack_if P t u e.name ≡ lacks_of P t u e
  unfolding lacks_of
  entry-lacks e z = rw (eq-eqb z) refl

  pub entry-has : (e : Entry) → e.kind ≡ 1 → flat_map (lack_if P t u) (partners P e.name (named_count P)) ≡ lacks_of P t u e
  unfolding lacks_of
  entry-has e z =
      let y : e.kind ≢ 2 = λ q. absurd (omega (arith, q, z)) in
      rw (ne_eqb y, eq-eqb z) refl

  pub entry-other : {rows : List ℕ} {n : ℕ} (e : Entry) → n ≤ length rows + 1 → e.kind ≢ 2 → e.kind ≢ 1 → Counted (length rows) rows n (lacks_of P t u e) rows n
  unfolding lacks_of
  entry-other e l y z = rw (ne_eqb y, ne_eqb z) (counted-none refl l)

-- ---- each once

-- the rest, where number x stands next
pub apart-next : (o last : ℕ) (xs : List ℕ) (i : ℕ) → i < length xs
    → lack_numbers o (apart last (drop i xs)) ≡ lack_numbers o (next_apart last (get_or xs i 0)) ++ lack_numbers o (apart (get_or xs i 0) (drop (i + 1) xs))
unfolding apart
apart-next o last xs i l =
    rw (drop-cons xs i 0 l, apart, add-one i)
    (ap (λ (z : List Atom). leaf_numbers o z) (map-append (λ (p : ℕ). atom lacks (p % 65536) 0) (next_apart last (get_or xs i 0)) (apart (get_or xs i 0) (drop (suc i) xs)))
    ∙ numbers-append o (map (λ (p : ℕ). atom lacks (p % 65536) 0) (next_apart last (get_or xs i 0))) (map (λ (p : ℕ). atom lacks (p % 65536) 0) (apart (get_or xs i 0) (drop (suc i) xs))))

pub apart-end : (o last : ℕ) (xs : List ℕ) (i : ℕ) → length xs ≤ i → lack_numbers o (apart last (drop i xs)) ≡ []
unfolding apart leaf_rows
apart-end o last xs i l = rw (drop_of_length-le xs l) refl

-- x, unless it is the last
pub next-same : {rows : List ℕ} {n : ℕ} (o last x : ℕ) → n ≤ length rows + 1 → x ≡ last → Counted (length rows) rows n (lack_numbers o (next_apart last x)) rows n
unfolding leaf_rows
next-same o last x l e = rw (eq-eqb e) (counted-none refl l)

pub next-new : (o last x : ℕ) → x ≢ last → row_number (leaf_row o (atom lacks (x % 65536) 0)) ∷ [] ≡ lack_numbers o (next_apart last x)
unfolding leaf_rows
next-new o last x e = rw (ne_eqb e) refl
