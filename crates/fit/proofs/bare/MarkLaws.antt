-- Marks of owners, entry by entry: of all that own something, or of the places that ask for something.
-- Assumes nothing.
use Prim.Native.Nat.{◌+◌, ◌<◌, ℕ}
use lib.Dec.{eqb}
use lib.ListN.{get_or, length, length-replicate, length-set, replicate, set}
use lib.Seq.{get_or-set_other, get_or-set_same}
use mathlib.Core.Bool.{Bool, ◌||◌, false, true}
use mathlib.Core.List.{List}
use mathlib.Core.Path.{◌∙◌, ◌≡◌, ap, refl, sym}
use native.Mathlib.Numerals.{add-one}
use native.Mathlib.Omega.{arith}
use Rattle.std.proofs.Math.Bool.{or-false}
use Rattle.std.proofs.lemmas.List.{get_or-replicate}
use Rattle.base.proofs.Tests.{bool_cases, eq-cases, eq-eqb, ne_eqb, or-one}
use Rattle.blocks.specs.Entries.{nth}
use Rattle.blocks.specs.Owners.{owner_of}
use Rattle.blocks.specs.declared.Entry.{Entry}
use Rattle.fit.specs.code.Bare.{Marked, quiet}
use Rattle.meaning.specs.Owned.{all_where}

module _ (tells : Entry → Bool) (es : List Entry) where
  -- no entries
  pub marks-start : {most : ℕ} {marks : List Bool} → marks ≡ replicate most false → Marked tells es 0 most marks
  unfolding quiet all_where
  marks-start {most} e = record { size = ap length e ∙ length-replicate {A = Bool} most false; mark = λ o h. rw e (get_or-replicate {A = Bool} most o false false h) }

  -- an entry of another owner, or that tells nothing, changes nothing
  quiet-other : (o n : ℕ) → eqb (owner_of es (n + 1)) o ≡ false → quiet tells es o (n + 1) ≡ quiet tells es o n
  unfolding quiet all_where
  quiet-other o n q = rw (add-one, quiet, all_where) (rw (rw add-one at q))

  quiet-silent : (o n : ℕ) → tells (nth es (n + 1)) ≡ false → quiet tells es o (n + 1) ≡ quiet tells es o n
  unfolding quiet all_where
  quiet-silent o n q = rw (add-one, quiet, all_where) (bool_cases (eqb (owner_of es (n + 1)) o) (λ e. rw (rw add-one at e, rw add-one at q)) (λ e. rw (rw add-one at e)))

  quiet_told : (o n : ℕ) → owner_of es (n + 1) ≡ o → tells (nth es (n + 1)) ≡ true → quiet tells es o (n + 1) ≡ false
  unfolding quiet all_where
  quiet_told o n e q = rw (add-one, quiet, all_where, eq-eqb (rw add-one at e), rw add-one at q)

  module _ {n most : ℕ} {marks : List Bool} (M : Marked tells es n most marks) {e : Entry} (at : e ≡ nth es (n + 1)) where
    pub marks-silent : tells e ≡ false → Marked tells es (n + 1) most marks
    marks-silent q = record { size = M.size; mark = λ o h. M.mark o h ∙ rw (quiet-silent o n (rw at at q)) }

    pub marks-told : {marks' : List Bool} {p : ℕ} → tells e ≡ true → p ≡ e.owner → p < most → marks' ≡ set marks p true → Marked tells es (n + 1) most marks'
    unfolding owner_of
    marks-told {marks'} {p} q own h is = rw is (record {
      size = length-set marks p true ∙ M.size;
      mark = λ o l. eq-cases o p
          (λ z. rw (z, get_or-set_same marks p true false (omega (arith, M.size)), quiet_told p n (ap (λ (x : Entry). x.owner) (sym at) ∙ sym own) (rw at at q)))
          (λ z. get_or-set_other marks p o true false z ∙ M.mark o l
          ∙ rw (quiet-other o n (ne_eqb (λ y. z (sym y ∙ ap (λ (x : Entry). x.owner) (sym at) ∙ sym own)))));
    })

    -- by what was written
    pub marks-next : {marks' : List Bool} → e.owner < most → marks' ≡ set marks e.owner (get_or marks e.owner false || tells e) → Marked tells es (n + 1) most marks'
    marks-next {marks'} h is =
        let o = e.owner in
        let old = get_or marks o false in
        bool_cases (tells e)
        (λ y. let same : marks' ≡ set marks o true = is ∙ rw (y, or-one old) in marks-told y refl h same)
        (λ y.
        let M' = marks-silent y in
        let same : marks' ≡ set marks o old = is ∙ rw (y, or-false old) in
        rw same (record {
          size = length-set marks o old ∙ M.size;
          mark = λ p l. eq-cases p o
              (λ z. rw (z, get_or-set_same marks o old false (omega (arith, M.size))) (M'.mark o h))
              (λ z. get_or-set_other marks o p old false z ∙ M'.mark p l);
        }))
