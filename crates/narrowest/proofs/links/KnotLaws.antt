-- 'Every' rows pushed one after another, with the codes of the places below them.
-- Assumes nothing.
use Prim.Native.Nat.{◌+◌, ◌<◌, ◌≤◌, suc, ℕ}
use lib.ListN.{drop, drop_of_length-le, get_or, length, length-append, length-map, length-set, set}
use lib.Seq.{drop-cons}
use mathlib.Core.List.{List, [], ◌++◌, ◌∷◌, append_assoc, append-nil, map, map-append}
use mathlib.Core.Logic.{◌≢◌}
use mathlib.Core.Path.{◌∙◌, ◌≡◌, ap, refl, sym}
use native.Mathlib.Numerals.{add-one}
use native.Mathlib.Omega.{arith}
use Rattle.base.proofs.Tests.{eq-eqb, ne_eqb}
use Rattle.logic.proofs.TreeRows.FillLaws.{noted-append}
use Rattle.logic.proofs.TreeRows.LaidLaws.{codes-length, joint-length}
use Rattle.logic.specs.Filling.{noted}
use Rattle.logic.specs.Laying.{Joint, codes, joint, joint_rows}
use Rattle.logic.specs.Place.{Atom}
use Rattle.logic.specs.Tree.{node_row}
use Rattle.narrowest.proofs.rows.CountLaws.{counted-as, counted-none, counted_more}
use Rattle.narrowest.specs.code.Knots.{Knotted, knot_numbers}
use Rattle.narrowest.specs.code.Lacks.{apart, next_apart}
use Rattle.narrowest.specs.code.Pushes.{Counted, row_number}

-- ---- one row and one code for each

pub knots-length : (o : ℕ) (js : List (Joint ℕ)) → length (knot_numbers o js) ≡ length js
knots-length o js = length-map (joint_rows o js) row_number ∙ joint-length Atom o js

knots-append : (o : ℕ) (js ks : List (Joint ℕ)) → knot_numbers o (js ++ ks) ≡ knot_numbers o js ++ knot_numbers o ks
unfolding joint_rows
knots-append o [] ks = refl
knots-append o (joint l c ∷ js) ks = ap (λ (z : List ℕ). row_number (node_row o l) ∷ z) (knots-append o js ks)

codes-append : (js ks : List (Joint ℕ)) → codes (js ++ ks) ≡ codes js ++ codes ks
unfolding codes
codes-append [] ks = refl
codes-append (joint l c ∷ js) ks = ap (λ (z : List ℕ). c ∷ z) (codes-append js ks)

-- ---- none, one, and some after others

pub knotted-none : {rows below : List ℕ} {n : ℕ} (o : ℕ) → n ≤ length rows + 1 → Knotted (length rows) rows n o [] below rows n below
unfolding joint_rows noted codes
knotted-none o l = record { pushed = counted-none refl l; wide = refl; notes = λ h. refl }

pub knotted-more : {w i j k o : ℕ} {a b c β β' β'' : List ℕ} (js ks : List (Joint ℕ)) → Knotted w a i o js β b j β' → Knotted (length b) b j o ks β' c k β''
    → Knotted w a i o (js ++ ks) β c k β''
knotted-more {w} {i} {j} {k} {o} {a} {b} {c} {β} {β'} {β''} js ks p q =
    let n = length-append js ks in
    let m = knots-length o js in
    record {
      pushed = counted-as (counted_more (knot_numbers o js) (knot_numbers o ks) p.pushed (counted-as q.pushed p.pushed.size refl)) refl (sym (knots-append o js ks));
      wide = q.wide ∙ p.wide;
      notes = λ h.
          let z : j ≡ i + length js = omega (arith, p.pushed.total, n, m, h) in
          let e : j + 1 ≡ i + 1 + length (codes js) = omega (arith, z, codes-length js) in
          q.notes (omega (arith, z, n, h, p.pushed.size))
          ∙ ap (λ (t : List ℕ). noted t (j + 1) (codes ks)) (p.notes (omega (arith, n, h)))
          ∙ ap (λ (x : ℕ). noted (noted β (i + 1) (codes js)) x (codes ks)) e
          ∙ sym (noted-append β (i + 1) (codes js) (codes ks))
          ∙ ap (λ (cs : List ℕ). noted β (i + 1) cs) (sym (codes-append js ks));
    }

-- a row that finds no room, and one that finds room
pub knotted-past : {rows rows' below : List ℕ} {n k : ℕ} (o l c : ℕ) → Counted (length rows) rows n (row_number (node_row o l) ∷ []) rows' k → length rows' < k
    → Knotted (length rows) rows n o (joint l c ∷ []) below rows' k below
unfolding joint_rows
knotted-past o l c p m = record { pushed = p; wide = refl; notes = λ h. absurd (omega (arith, p.total, p.size, h, m)) }

pub knotted-one : {rows rows' below : List ℕ} {n k d : ℕ} (o l c : ℕ) → Counted (length rows) rows n (row_number (node_row o l) ∷ []) rows' k → k ≤ length rows'
    → d ≡ c → Knotted (length rows) rows n o (joint l c ∷ []) below rows' k (set below k d)
unfolding joint_rows noted codes
knotted-one {below = below} {n} {k} {d} o l c p m e =
    record { pushed = p; wide = length-set below k d; notes = λ h. ap (λ (x : ℕ). set below x d) (omega (arith, p.total, h)) ∙ ap (set below (n + 1)) e }

-- ---- some done, and the rest to do

pub record KnotPart (w : ℕ) (a : List ℕ) (i o : ℕ) (whole : List (Joint ℕ)) (below b : List ℕ) (j : ℕ) (below' : List ℕ) (rest : List (Joint ℕ)) : Type 0 where
  pub done : List (Joint ℕ)
  pub knotted : Knotted w a i o done below b j below'
  pub parts : whole ≡ done ++ rest

pub knots-start : {a below : List ℕ} {i : ℕ} (o : ℕ) {whole rest : List (Joint ℕ)} → i ≤ length a + 1 → whole ≡ rest → KnotPart (length a) a i o whole below a i below rest
knots-start o l e = record { done = []; knotted = knotted-none o l; parts = e }

pub knots-more : {w i j k o : ℕ} {a b c β β' β'' : List ℕ} {whole rest rest' : List (Joint ℕ)} (ks : List (Joint ℕ)) → KnotPart w a i o whole β b j β' rest
    → rest ≡ ks ++ rest' → Knotted (length b) b j o ks β' c k β'' → KnotPart w a i o whole β c k β'' rest'
knots-more ks p e q =
    record { done = p.done ++ ks; knotted = knotted-more p.done ks p.knotted q; parts = p.parts ∙ rw (e, append_assoc p.done ks) refl }

pub knots-done : {w i j o : ℕ} {a b β β' : List ℕ} {whole rest : List (Joint ℕ)} → KnotPart w a i o whole β b j β' rest → rest ≡ []
    → Knotted w a i o whole β b j β'
knots-done {w} {i} {j} {o} {a} {b} {β} {β'} p e =
    let z : p.done ≡ _ = sym (p.parts ∙ rw (e, append-nil p.done) refl) in rw (← z) p.knotted

-- ---- each once

module _ (f : ℕ → Joint ℕ) where
  -- the rest, where number x stands next
  pub once-next : (last : ℕ) (xs : List ℕ) (i : ℕ) → i < length xs
      → map f (apart last (drop i xs)) ≡ map f (next_apart last (get_or xs i 0)) ++ map f (apart (get_or xs i 0) (drop (i + 1) xs))
  unfolding apart
  once-next last xs i l = rw (drop-cons xs i 0 l, apart, add-one i) (map-append f (next_apart last (get_or xs i 0)) (apart (get_or xs i 0) (drop (suc i) xs)))

  pub once-end : (last : ℕ) (xs : List ℕ) (i : ℕ) → length xs ≤ i → map f (apart last (drop i xs)) ≡ []
  unfolding apart
  once-end last xs i l = rw (drop_of_length-le xs l) refl

  -- x, unless it is the last
  pub once-same : {rows below : List ℕ} {n : ℕ} (o last x : ℕ) → n ≤ length rows + 1 → x ≡ last
      → Knotted (length rows) rows n o (map f (next_apart last x)) below rows n below
  once-same o last x l e = rw (eq-eqb e) (knotted-none o l)

  pub once-new : (last x : ℕ) → x ≢ last → f x ∷ [] ≡ map f (next_apart last x)
  once-new last x e = rw (ne_eqb e) refl
