-- The search for number 9: what it finds, as a place, and that no entry breaks the number where none is a group by a link that leads to one item
-- only.
-- Assumes nothing.
use Rattle.std.proofs.Common.{◌≡◌, ℕ, zero, suc, ◌≤◌, ◌≢◌, List, Some, None, false, sym, refl, arith}
use Rattle.base.proofs.SearchLaws.{none_first}
use Rattle.base.specs.Search.{first_from}
use Rattle.blocks.proofs.Refusing.SingleLaws.{other-ok}
use Rattle.blocks.specs.Entries.{nth}
use Rattle.blocks.specs.Single.{single_group, single_ok}
use Rattle.blocks.specs.code.SingleSteps.{place}
use Rattle.blocks.specs.declared.Entry.{Entry}

-- what a search gives is a place, or none
pub no_place : {k : ℕ} → k ≡ 0 → None ≡ place k
no_place e = rw e

pub place-is : (k p : ℕ) → k ≡ p → p ≢ 0 → Some p ≡ place k
place-is k zero e z = absurd (z refl)
place-is k (suc p) e z = rw e

pub place-none : (k : ℕ) → None ≡ place k → k ≡ 0
place-none zero e = refl
place-none (suc k) e = cc

pub place-some : (k : ℕ) {p : ℕ} → Some p ≡ place k → (k ≡ p) × (p ≢ 0)
place-some zero e = cc
place-some (suc k) {p} e = let q : p ≡ suc k = cc in (sym q, λ z. omega arith)

-- where no entry is such a group, none breaks the number
pub none-double : (es : List Entry) (n : ℕ) → ((k : ℕ) → 1 ≤ k → k ≤ n → single_group (nth es k) ≡ false) → None ≡ place (first_from (single_ok es) 1 n)
none-double es n h = no_place (none_first (single_ok es) 1 n (λ k lo hi. other-ok es k (h k lo (omega arith))))
