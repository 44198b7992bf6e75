-- The profile as a test passes exactly where the entry is in it.
-- Assumes nothing.
use Rattle.std.proofs.Common.{◌≡◌, ◌==◌, ℕ, true, ◌&&◌, ◌||◌, nat_le, List, ◌⊎◌, inl, inr, ⊎_elim}
use Rattle.base.proofs.Tests.{and_both, and_left, and_right, or_cases, tests}
use Rattle.blocks.specs.Entries.{nth}
use Rattle.blocks.specs.Owners.{depth_of}
use Rattle.blocks.specs.declared.Entry.{Entry}
use Rattle.narrow.specs.Profile.{InProfile}
use Rattle.sheets.specs.Sheet.{in_profile, kind_in, sheet_ok}

kinds-in : (k : ℕ) → kind_in k ≡ true → (k ≡ 1) ⊎ ((k ≡ 3) ⊎ ((k ≡ 4) ⊎ (k ≡ 5)))
unfolding kind_in
kinds-in k e =
    or_cases (k == 1) (k == 3 || (k == 4 || k == 5)) e
    (λ z. inl (omega tests))
    (λ e'. or_cases (k == 3) (k == 4 || k == 5) e'
    (λ z. inr (inl (omega tests)))
    (λ e''. or_cases (k == 4) (k == 5) e''
    (λ z. inr (inr (inl (omega tests))))
    (λ z. inr (inr (inr (omega tests))))))

in-kinds : (k : ℕ) → (k ≡ 1) ⊎ ((k ≡ 3) ⊎ ((k ≡ 4) ⊎ (k ≡ 5))) → kind_in k ≡ true
unfolding kind_in
in-kinds k h =
    ⊎_elim (λ z. rw z)
    (λ h'. ⊎_elim (λ z. rw z)
    (λ h''. ⊎_elim (λ z. rw z) (λ z. rw z) h'') h') h

module _ (es : List Entry) (n : ℕ) where
  pub test-profile : sheet_ok es n ≡ true → InProfile es n
  unfolding sheet_ok in_profile
  test-profile e =
      let k = (nth es n).kind in
      let m = (nth es n).number in
      let a = and_left (kind_in k && nat_le m 99) (nat_le (depth_of es n) 3) e in
      let d = and_right (kind_in k && nat_le m 99) (nat_le (depth_of es n) 3) e in
      let b = and_right (kind_in k) (nat_le m 99) a in
      record { kind = kinds-in k (and_left (kind_in k) (nat_le m 99) a); number = omega tests; depth = omega tests }

  pub profile-test : InProfile es n → sheet_ok es n ≡ true
  unfolding sheet_ok in_profile
  profile-test h =
      let a = h.number in
      let d = h.depth in
      and_both (and_both (in-kinds (nth es n).kind h.kind) (omega tests)) (omega tests)
