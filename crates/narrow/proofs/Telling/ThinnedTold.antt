-- A description of which no two entries clash, with entries that say nothing in place of some: no two clash, so no
-- place of it comes out impossible, and what it says every record keeps or one kept entry says.
-- Assumes nothing.
use Prim.Native.Nat.{◌≤◌, ℕ}
use lib.Dec.{eqb}
use lib.ListN.{length}
use mathlib.Core.Bool.{Bool, ◌||◌, true}
use mathlib.Core.List.{List}
use mathlib.Core.Logic.{◌≢◌, ◌↔◌, ◌⊎◌, inl, inr, ⊎_elim}
use mathlib.Core.Path.{◌∙◌, ◌≡◌, ap, refl, sym}
use Rattle.base.proofs.Tests.{bool_cases}
use Rattle.blocks.specs.Entries.{nth}
use Rattle.blocks.specs.Promise.{Legal}
use Rattle.blocks.specs.declared.Entry.{Entry}
use Rattle.blocks.specs.declared.Schema.TheVariants.{Description}
use Rattle.logic.specs.Background.{Background, LawfulBackground}
use Rattle.logic.specs.Meaning.{Entails}
use Rattle.logic.specs.Normal.{supports}
use Rattle.logic.specs.Place.{Atom, kind_of}
use Rattle.logic.specs.Tree.{end}
use Rattle.meaning.specs.Description.{atom_of, links_to, place_of}
use Rattle.narrow.proofs.Telling.EntriesTold.{Peaceful, ToldBy, told-exactly}
use Rattle.narrow.proofs.Telling.MissingTold.{idle, idle-first, idle-second, idle-tells, kept-entry, not-every}
use Rattle.narrow.proofs.Telling.Peaceful.{clash-empty}
use Rattle.narrow.proofs.Keeping.Thinned.{legal-thinned, nth-thinned, same-path, size}
use Rattle.narrow.specs.Keeping.{neutral, thinned}
use Rattle.narrow.specs.Told.{tells}

module _ {b : Background} (law : LawfulBackground b) (d : List Entry) (D : Legal Description d) (K : ℕ → Bool) where
  abbrev T : List Entry
  T = thinned K 1 d

  record Origin (n : ℕ) : Type 0 where
    pub atom : ((nth T n ≡ nth d n) × ((nth d n).kind ≢ 5) × (K n ≡ true)) ⊎ (atom_of (nth T n) ≡ idle)

  origin : (n : ℕ) → 1 ≤ n → n ≤ length d → (nth T n).kind ≢ 5 → Origin n
  unfolding kind_of
  origin n lo hi z =
      let g = nth-thinned K d n lo hi in
      record {
        atom = bool_cases (eqb (nth d n).kind 5 || K n)
            (λ q.
            let s : nth T n ≡ nth d n = rw q at g in
            let y : (nth d n).kind ≢ 5 = λ v. z (ap (λ (u : Entry). u.kind) s ∙ v) in
            inl (s, y, not-every (nth d n).kind (K n) y q))
            (λ q. let s : nth T n ≡ neutral (nth d n) = rw q at g in inr (ap atom_of s));
      }

  pub peaceful-thinned : Peaceful b d → Peaceful b T
  peaceful-thinned P =
      record {
        apart = λ i j li hi lj hj zi zj e.
            let hi' : i ≤ length d = rw (size K d) at hi in
            let hj' : j ≤ length d = rw (size K d) at hj in
            let x = origin i li hi' zi in
            let y = origin j lj hj' zj in
            ⊎_elim
            (λ u. ⊎_elim
            (λ v. rw (u.0, v.0) (P.apart i j li hi' lj hj' u.1 v.1 (sym (same-path K d D i li hi') ∙ e ∙ same-path K d D j lj hj')))
            (λ v. rw v (idle-second law (atom_of (nth T i)))) y.atom)
            (λ u. rw u (⊎_elim
            (λ v. rw v.0 (idle-first law (atom_of (nth d j)) (clash-empty law (atom_of (nth d j)) (atom_of (nth d j)) (P.apart j j lj hj' lj hj' v.1 v.1 refl))))
            (λ v. rw v (idle-second law idle)) y.atom)) x.atom;
      }

  -- some kept entry says it
  pub record ToldKept (w : List ℕ) (a : Atom) : Type 0 where
    pub entry : ℕ
    pub from_one : 1 ≤ entry
    pub to_last : entry ≤ length d
    pub kind : (nth d entry).kind ≢ 5
    pub kept : K entry ≡ true
    pub telling : tells b (links_to d entry) (atom_of (nth d entry)) w a ≡ true

  pub thinned-told : Peaceful b d → (w : List ℕ) (a : Atom) → Entails b (place_of T 0) w a ↔ ((supports b end a ≡ true) ⊎ ToldKept w a)
  thinned-told P w a =
      let x = told-exactly law T (legal-thinned K d D) (peaceful-thinned P) w a in
      (λ f. ⊎_elim (λ v. inl v) to-kept (x.0 f), λ s. x.1 (⊎_elim (λ v. inl v) (λ v. inr (from-kept v)) s))
    where
      to-kept : ToldBy b T w a → (supports b end a ≡ true) ⊎ ToldKept w a
      to-kept t =
          let hi : t.entry ≤ length d = rw (size K d) at t.to_last in
          let p = same-path K d D t.entry t.from_one hi in
          ⊎_elim
          (λ u. inr (record {
            entry = t.entry;
            from_one = t.from_one;
            to_last = hi;
            kind = u.1;
            kept = u.2;
            telling = rw (p, u.0) at t.telling;
          }))
          (λ u. inl (idle-tells law (links_to T t.entry) w a (rw u at t.telling)))
          (origin t.entry t.from_one hi t.kind).atom

      from-kept : ToldKept w a → ToldBy b T w a
      from-kept t =
          let s = kept-entry d K t.entry t.from_one t.to_last t.kind t.kept in
          record {
            entry = t.entry;
            from_one = t.from_one;
            to_last = rw (size K d) t.to_last;
            kind = λ q. t.kind (sym (ap (λ (u : Entry). u.kind) s) ∙ q);
            telling = rw (s, same-path K d D t.entry t.from_one t.to_last) t.telling;
          }
