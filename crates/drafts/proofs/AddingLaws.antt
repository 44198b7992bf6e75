-- Adding an entry, by the table of levels of those that are there.
-- Assumes nothing.
use Rattle.std.proofs.Common.{◌≡◌, ℕ, zero, suc, ◌+◌, ◌-◌, ◌≤◌, ◌<◌, false, leb, List, [], ◌∷◌, ◌++◌, length, length-append, Option, Some, None, Ok, refl, sym, subst, ap, ◌∙◌, arith}
use Rattle.base.proofs.Tests.{gt-leb}
use Rattle.blocks.proofs.Refusing.LevelLaws.{entries-end, entries-found, entries-more}
use Rattle.blocks.specs.Entries.{nth}
use Rattle.blocks.specs.Faults.{Faulty, Clean, entry_rows, first, rows_from}
use Rattle.blocks.specs.Owners.{depth_of, level_of, owner_of}
use Rattle.blocks.specs.Reading.{Reading}
use Rattle.blocks.specs.Refusals.{refused}
use Rattle.blocks.specs.code.ReadingSteps.{Levels, entry_refusal, level_by, rule_faults}
use Rattle.blocks.specs.declared.Cause.{Cause}
use Rattle.blocks.specs.declared.Entry.{Entry}
use Rattle.blocks.specs.declared.Schema.TheVariants.{Description}
use Rattle.drafts.proofs.GrownLaws.{chain-prefix, nth-prefix, owner-prefix}
use Rattle.drafts.specs.declared.Call.TheVariants as call
use Rattle.drafts.specs.Draft.{adding, answered, with_entry}
use Rattle.drafts.proofs.AnswerLaws.{draft-length}
use Rattle.drafts.proofs.MemoryLaws.{length-entries}
use Rattle.drafts.specs.Memory.{entries_at, held_in}
use Rattle.drafts.specs.declared.Desk.{Desk}

-- what is found of the last entry alone
one-row : (es : List Entry) (n : ℕ) → rule_faults Description es n 1 ≡ entry_rows Description es n
unfolding rows_from
one-row es n = refl

nth-added : (es : List Entry) (e : Entry) → nth (with_entry es e) (length es + 1) ≡ e
unfolding nth
nth-added [] e = refl
nth-added (x ∷ es) e =
    let a : length es + 1 ≡ suc (length es) = omega arith in
    let b : suc (length es) + 1 ≡ suc (suc (length es)) = omega arith in
    let h : nth (with_entry es e) (suc (length es)) ≡ e = ap (nth (with_entry es e)) (sym a) ∙ nth-added es e in
    ap (nth (with_entry (x ∷ es) e)) b ∙ h

level-prefix : (es ys : List Entry) → ((j : ℕ) → 1 ≤ j → j ≤ length es → owner_of es j < j) → (k : ℕ) → k ≤ length es
    → level_of Description (es ++ ys) k ≡ level_of Description es k
unfolding level_of depth_of
level-prefix es ys early zero h = refl
level-prefix es ys early (suc k) h = rw (nth-prefix es ys (suc k) h, chain-prefix es ys early (suc k) (suc k) h)

module _ (es : List Entry) (e : Entry) {t : List ℕ} (T : Levels Description es t (length es + 1)) (room : length es + 1 < length t) where
  added : List Entry
  added = with_entry es e

  long : length (with_entry es e) ≡ length es + 1
  long = length-append es (e ∷ [])

  levels-added : Levels Description (with_entry es e) t (length es + 1)
  levels-added =
      let early : (j : ℕ) → 1 ≤ j → j ≤ length es → owner_of es j < j = λ j lo hi. T.early j lo (omega arith) in
      record {
        room = omega (arith, long);
        right = λ k l. T.right k l ∙ sym (level-prefix es (e ∷ []) early k (omega arith));
        early = λ k lo l. rw (owner-prefix es (e ∷ []) k (omega arith)) (T.early k lo l);
      }

  module _ {l : ℕ} {o : Option Cause} (lv : l ≡ level_by t (length es + 1) e.owner) (r : o ≡ entry_refusal Description e l) where
    pub adds-no : {k : Cause} → o ≡ Some k → adding es e ≡ refused k 1 (length es + 1)
    unfolding adding
    adds-no {k} z =
        let f = entries-found Description (with_entry es e) t (length es + 1) levels-added (omega arith) (sym (nth-added es e)) lv r (length es + 1) (omega arith) z in
        let a : length es + 1 + 1 - (length es + 1) ≡ 1 = omega arith in
        let g : first (entry_rows Description (with_entry es e) (length es + 1)) ≡ Faulty k (length es + 1) =
        ap first (sym (one-row (with_entry es e) (length es + 1))) ∙ (rw a at f) in
        let b : suc (length es) ≡ length es + 1 = omega arith in
        rw (adding, b, g)

    pub adds : o ≡ None → adding es e ≡ Ok (length es + 1)
    unfolding adding
    adds z =
        let f = entries-more Description (with_entry es e) t (length es + 1) levels-added (omega arith) (sym (nth-added es e)) lv r (length es + 1) (omega arith) z in
        let a : length es + 1 + 1 - (length es + 1) ≡ 1 = omega arith in
        let c = entries-end Description (with_entry es e) (length es + 1 + 1) (length es + 1) (omega arith) in
        let g : first (entry_rows Description (with_entry es e) (length es + 1)) ≡ Clean =
        ap first (sym (one-row (with_entry es e) (length es + 1))) ∙ (rw a at f) ∙ c in
        let b : suc (length es) ≡ length es + 1 = omega arith in
        rw (adding, b, g)

-- ---- of a desk with room

pub room-for : (d : Desk) (m : List ℕ) (e : Entry) → d.count < 1008 → answered (held_in d m) (call.Add e) ≡ adding (held_in d m).draft e
unfolding answered
room-for d m e h = let q : leb 1008 (length (held_in d m).draft) ≡ false = gt-leb (let k = draft-length d m in omega arith) in rw (answered, q)

abbrev taken : ℕ → Reading
taken n = Ok n

-- what the code finds of the entry, by the table of levels of those that are there
module _ (d : Desk) (m : List ℕ) (e : Entry) {t : List ℕ} (T : Levels Description (entries_at m 0 d.count) t (d.count + 1)) (room : d.count + 1 < length t)
    (few : d.count < 1008) {l : ℕ} {o : Option Cause} (lv : l ≡ level_by t (d.count + 1) e.owner) (r : o ≡ entry_refusal Description e l) where
  held-count : length (entries_at m 0 d.count) ≡ d.count
  held-count = length-entries m 0 d.count

  pub add-refused : (k : Cause) → o ≡ Some k → answered (held_in d m) (call.Add e) ≡ refused k 1 (d.count + 1)
  unfolding held_in
  add-refused k z =
      let es = entries_at m 0 d.count in
      room-for d m e few
      ∙ adds-no es e (subst (λ (n : ℕ). Levels Description (entries_at m 0 d.count) t (n + 1)) (sym held-count) T) (subst (λ (n : ℕ). n + 1 < length t) (sym held-count) room) (lv ∙ ap (λ (n : ℕ). level_by t (n + 1) e.owner) (sym held-count)) r z
      ∙ ap (λ (n : ℕ). refused {A = ℕ} k 1 (n + 1)) held-count

  pub add-accepted : o ≡ None → answered (held_in d m) (call.Add e) ≡ Ok (d.count + 1)
  unfolding held_in
  add-accepted z =
      let es = entries_at m 0 d.count in
      room-for d m e few
      ∙ adds es e (subst (λ (n : ℕ). Levels Description (entries_at m 0 d.count) t (n + 1)) (sym held-count) T) (subst (λ (n : ℕ). n + 1 < length t) (sym held-count) room) (lv ∙ ap (λ (n : ℕ). level_by t (n + 1) e.owner) (sym held-count)) r z
      ∙ ap (λ (n : ℕ). taken (n + 1)) held-count
