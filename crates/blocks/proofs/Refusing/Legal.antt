-- Lists of entries that break none of numbers 4 to 6 of the table of refusals, nor a further line of their schema.
-- Assumes nothing.
use Rattle.std.proofs.Common.{◌≡◌, ℕ, ◌<◌, ◌≤◌, true, ◌&&◌, eqb, ltb, leb, ◌≢◌, List, length, arith}
use Rattle.base.proofs.Tests.{and_left, and_right, eqb-eq, leb-le, ltb-lt, not-to-false, or_cases, tests, true_of_not}
use Rattle.blocks.proofs.Refusing.RowLaws.{each_none, none_each}
use Rattle.blocks.specs.Entries.{form_ok, kind_ok, nth, owning_kind}
use Rattle.blocks.specs.Faults.{entry_faults, entry_rows}
use Rattle.blocks.specs.Owners.{depth_ok, owner_of, owner_ok}
use Rattle.blocks.specs.Promise.{Further, Legal, NoneApplies}
use Rattle.blocks.specs.declared.Entry.{Entry}
use Rattle.blocks.specs.declared.Schema.TheVariants.{Description, Named, Specimen}
use Rattle.blocks.specs.declared.Schema.{Schema}

-- owners stand earlier
pub owner-earlier : {σ : Schema} {es : List Entry} → Legal σ es → (n : ℕ) → 1 ≤ n → n ≤ length es → owner_of es n < n
unfolding owner_ok
owner-earlier {σ} {es} L n h le =
    or_cases (eqb (owner_of es n) 0) (ltb (owner_of es n) n && eqb (nth es (owner_of es n)).kind (owning_kind σ)) (L.owner n h le)
    (λ q. omega tests)
    (λ q. ltb-lt (and_left (ltb (owner_of es n) n) (eqb (nth es (owner_of es n)).kind (owning_kind σ)) q))

-- an owner that is not the top is of the kind that owns
pub owner-kind : {σ : Schema} {es : List Entry} → Legal σ es → (n : ℕ) → 1 ≤ n → n ≤ length es → owner_of es n ≢ 0
    → (nth es (owner_of es n)).kind ≡ owning_kind σ
unfolding owner_ok
owner-kind {σ} {es} L n h le z =
    or_cases (eqb (owner_of es n) 0) (ltb (owner_of es n) n && eqb (nth es (owner_of es n)).kind (owning_kind σ)) (L.owner n h le)
    (λ q. absurd (z (eqb-eq q)))
    (λ q. eqb-eq (and_right (ltb (owner_of es n) n) (eqb (nth es (owner_of es n)).kind (owning_kind σ)) q))

-- ---- a list of which no line by entries applies is legal and keeps the further lines, and the other way round

-- the lines of each entry
rows_none : (σ : Schema) (es : List Entry) → NoneApplies (entry_faults σ es 1 (length es)) → (n : ℕ) → 1 ≤ n → n ≤ length es → NoneApplies (entry_rows σ es n)
unfolding entry_faults
rows_none σ es h n lo hi = none_each (entry_rows σ es) 1 (length es) h n lo (omega arith)

-- of which numbers 4 to 6 come first
rules-none : (σ : Schema) (es : List Entry) (n : ℕ) → NoneApplies (entry_rows σ es n)
    → (form_ok σ (nth es n) ≡ true) × ((owner_ok σ es n ≡ true) × (depth_ok es n ≡ true))
unfolding NoneApplies
rules-none Description es n h = (true_of_not _ h.0, (true_of_not _ h.1.0, true_of_not _ h.1.1.0))
rules-none Specimen es n h = (true_of_not _ h.0, (true_of_not _ h.1.0, true_of_not _ h.1.1.0))
rules-none (Named most) es n h = (true_of_not _ h.0, (true_of_not _ h.1.1.0, true_of_not _ h.1.1.1.0))

pub none-legal : {σ : Schema} {es : List Entry} → NoneApplies (entry_faults σ es 1 (length es)) → Legal σ es
none-legal {σ} {es} h = record {
  form = λ n lo hi. (rules-none σ es n (rows_none σ es h n lo hi)).0;
  owner = λ n lo hi. (rules-none σ es n (rows_none σ es h n lo hi)).1.0;
  depth = λ n lo hi. (rules-none σ es n (rows_none σ es h n lo hi)).1.1;
}

pub none-further : (σ : Schema) (es : List Entry) → NoneApplies (entry_faults σ es 1 (length es)) → Further σ es
unfolding NoneApplies
none-further Description es h = tt
none-further Specimen es h = record { each = λ n lo hi. true_of_not _ (rows_none Specimen es h n lo hi).1.1.1.0 }
none-further (Named most) es h = λ n lo hi. true_of_not _ (rows_none (Named most) es h n lo hi).1.0

pub legal-none : {σ : Schema} {es : List Entry} → Legal σ es → Further σ es → NoneApplies (entry_faults σ es 1 (length es))
unfolding NoneApplies entry_faults
legal-none {σ} {es} L f = each_none (entry_rows σ es) 1 (length es) (λ n lo hi. here σ L f n lo (omega arith))
  where
    here : (σ : Schema) → Legal σ es → Further σ es → (n : ℕ) → 1 ≤ n → n ≤ length es → NoneApplies (entry_rows σ es n)
    here Description L f n lo hi =
        (not-to-false (L.form n lo hi), (not-to-false (L.owner n lo hi), (not-to-false (L.depth n lo hi), tt)))
    here (Named most) L f n lo hi =
        (not-to-false (L.form n lo hi), (not-to-false (f n lo hi), (not-to-false (L.owner n lo hi), (not-to-false (L.depth n lo hi), tt))))
    here Specimen L f n lo hi = (
      not-to-false (L.form n lo hi),
      (not-to-false (L.owner n lo hi), (not-to-false (L.depth n lo hi), (not-to-false (f.each n lo hi), tt))),
    )

-- a kind that is allowed is a number of the table
pub form-kind : (e : Entry) → form_ok Description e ≡ true → (1 ≤ e.kind) × (e.kind ≤ 6)
unfolding form_ok
form-kind e h =
    let k : (ltb 0 e.kind && leb e.kind 6) ≡ true = and_left (kind_ok Description e.kind) _ h in
    (ltb-lt (and_left (ltb 0 e.kind) (leb e.kind 6) k), leb-le (and_right (ltb 0 e.kind) (leb e.kind 6) k))
