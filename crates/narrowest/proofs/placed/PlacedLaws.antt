-- The rows of a place: its atoms, and then its 'every' entries.
-- Assumes nothing.
use Prim.Native.Nat.{◌+◌, ◌≤◌, ℕ}
use lib.ListN.{length, length-map}
use mathlib.Core.List.{List, [], ◌++◌, ◌∷◌}
use mathlib.Core.Path.{◌∙◌, ◌≡◌, ap, refl, sym}
use native.Mathlib.Omega.{arith}
use Rattle.logic.proofs.TreeRows.LaidLaws.{leaf-length}
use Rattle.logic.proofs.TreeRows.LaidWalk.{numbers-length}
use Rattle.logic.specs.Filling.{Joined}
use Rattle.logic.specs.Laying.{Joint, codes, leaf_rows, place_numbers}
use Rattle.logic.specs.Place.{Atom}
use Rattle.base.proofs.Tests.{eq-cases, eq-eqb, ne_eqb}
use Rattle.blocks.specs.Entries.{packed}
use Rattle.blocks.specs.declared.Entry.{Entry}
use Rattle.logic.specs.Normal.{rank}
use Rattle.logic.specs.Place.{kind_of}
use Rattle.narrowest.proofs.rows.CountLaws.{counted-as, counted-none, counted_more, numbers-append}
use Rattle.narrowest.specs.code.Codes.{along, atoms_in, first_alone, joined_atoms, second_alone, whole_atoms}
use Rattle.narrowest.specs.code.Forms.{owned_by}
use Rattle.std.specs.List.{flat_map}
use mathlib.Core.Bool.{false, false≢true, true}
use mathlib.Core.Logic.{◌≢◌}
use Rattle.narrowest.specs.code.Knots.{Knotted, Placed, knot_numbers}
use Rattle.narrowest.specs.code.Pushes.{Counted, leaf_numbers, row_number}

leaves-length : (o : ℕ) (ls : List Atom) → length (leaf_numbers o ls) ≡ length ls
leaves-length o ls = length-map (leaf_rows o ls) row_number ∙ leaf-length ℕ o ls

-- atoms, and then 'every' entries
pub placed-both : {w i j k : ℕ} {a b c β β' : List ℕ} (o : ℕ) (ls : List Atom) (js : List (Joint ℕ)) → Counted w a i (leaf_numbers o ls) b j
    → Knotted (length b) b j o js β c k β' → Placed w a i o ls js β c k β'
placed-both {w} {i} {j} {k} {a} {b} {c} {β} {β'} o ls js p q =
    let n = leaves-length o ls in
    record {
      pushed = counted_more (leaf_numbers o ls) (knot_numbers o js) p (counted-as q.pushed p.size refl);
      wide = q.wide;
      notes = λ h.
          let z : j ≡ i + length ls = omega (arith, p.total, n, h) in
          rw (← z) (q.notes (omega (arith, z, h, p.size)));
    }

-- a place that has room is filled in
pub placed-joined : {w i r o : ℕ} {a b β β' : List ℕ} {ls : List Atom} {js : List (Joint ℕ)} → Placed w a i o ls js β b r β' → r ≤ w
    → (i + length (place_numbers row_number o ls js) ≤ w) × Joined w a i (place_numbers row_number o ls js) β (i + length ls + 1) (codes js) b r β'
placed-joined {w} {i} {r} {o} {ls = ls} {js} p l =
    let n = numbers-length row_number o ls js in
    let fits : i + length (place_numbers row_number o ls js) ≤ w = omega (arith, p.pushed.total, l) in (
      fits,
      record {
        pushed = record { size = p.pushed.size; total = omega (arith, p.pushed.total, fits); held = p.pushed.held fits };
        notes = p.notes (omega (arith, n, fits));
      },
    )

-- ---- an entry of a place that stands whole

module _ (o : ℕ) {e x : Entry} (i : e ≡ x) where
  pub own-every : {rows : List ℕ} {n : ℕ} → n ≤ length rows + 1 → e.kind ≡ 5 → Counted (length rows) rows n (leaf_numbers o (whole_atoms x)) rows n
  unfolding whole_atoms leaf_rows
  own-every l k = let k' = rw i at k in rw (eq-eqb k') (counted-none refl l)

  pub own-atom : {k : ℕ} → e.kind ≢ 5 → k ≡ rank (kind_of e.kind)
      → packed (record { kind = k; reserved = 0; owner = o; name = e.name; number = e.number }) ∷ [] ≡ leaf_numbers o (whole_atoms x)
  unfolding whole_atoms leaf_rows
  own-atom z f = let z' = rw i at z in rw (f, i, ne_eqb z') refl

-- ---- the four kinds of a joined place

pub kinds-pushed : {w i h k l m : ℕ} {a b c d e : List ℕ} (o : ℕ) (H K A B : List Atom) → Counted w a i (leaf_numbers o H) b h → Counted (length b) b h (leaf_numbers o K) c k
    → Counted (length c) c k (leaf_numbers o A) d l → Counted (length d) d l (leaf_numbers o B) e m → Counted w a i (leaf_numbers o (H ++ (K ++ (A ++ B)))) e m
kinds-pushed o H K A B p q r s =
    let last = counted_more (leaf_numbers o A) (leaf_numbers o B) r (counted-as s r.size refl) in
    let rest = counted_more (leaf_numbers o K) (leaf_numbers o A ++ leaf_numbers o B) q (counted-as last q.size refl) in
    counted-as (counted_more (leaf_numbers o H) (leaf_numbers o K ++ (leaf_numbers o A ++ leaf_numbers o B)) p (counted-as rest p.size refl)) refl
    (sym (numbers-append o H (K ++ (A ++ B))
    ∙ ap (λ (z : List ℕ). leaf_numbers o H ++ z) (numbers-append o K (A ++ B) ∙ ap (λ (z : List ℕ). leaf_numbers o K ++ z) (numbers-append o A B))))

-- ---- the atoms of a place, by how it stands

module _ (P : List ℕ) (one two : List Entry) (o s : ℕ) where
  pub atoms-first : first_alone o s ≡ true → flat_map whole_atoms (along one two o s) ≡ atoms_in P one two o s
  unfolding atoms_in
  atoms-first e =
      let f : second_alone o s ≡ false = apart o s e in
      rw (e, f) refl
    where
      apart : (x y : ℕ) → first_alone x y ≡ true → second_alone x y ≡ false
      apart x y h =
          eq-cases x 0
          (λ q. absurd (false≢true (rw (eq-eqb q) at h)))
          (λ q. rw (ne_eqb q) refl)

  pub atoms-second : first_alone o s ≡ false → second_alone o s ≡ true → flat_map whole_atoms (along one two o s) ≡ atoms_in P one two o s
  unfolding atoms_in
  atoms-second e f = rw (e, f) refl

  pub atoms-both : first_alone o s ≡ false → second_alone o s ≡ false → joined_atoms P one two o s ≡ atoms_in P one two o s
  unfolding atoms_in
  atoms-both e f = rw (e, f) refl

  pub along-both : second_alone o s ≡ false → along one two o s ≡ owned_by o one
  along-both f = rw f refl
