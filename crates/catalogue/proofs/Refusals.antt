-- The refusals in their order, one law for each way, and that a refusal leaves every byte of the output.
-- Assumes nothing.
use Prim.Native.Nat.{◌%◌, ◌+◌, ◌<◌, ◌≤◌, suc, zero, ℕ}
use lib.Dec.{ltb}
use lib.ListN.{get_or, length}
use mathlib.Core.Bool.{cond}
use mathlib.Core.List.{List, [], ◌∷◌}
use mathlib.Core.Logic.{◌≢◌}
use mathlib.Core.Path.{◌∙◌, ◌≡◌, ap, refl, sym}
use native.Mathlib.Nat.{add-suc, add-zero, suc-add}
use native.Mathlib.Omega.{arith}
use Rattle.base.proofs.Tests.{eq-eqb, ge-ltb, lt-ltb, ne_eqb}
use Rattle.blocks.proofs.Refusing.Readings.{reading-cases, refused-finding}
use Rattle.blocks.specs.Entries.{entries_of}
use Rattle.blocks.specs.Faults.{first}
use Rattle.blocks.specs.Frame.{plain, total_in}
use Rattle.blocks.specs.Refusals.{unless_refused, refusal, refused}
use Rattle.blocks.specs.declared.Entry.{Entry}
use Rattle.std.specs.Prelude.{Ok, Err}
use Rattle.blocks.specs.declared.Refusal.{Refusal}
use Rattle.blocks.specs.Reading.{Reading}
use Rattle.catalogue.specs.Answer.{answers_of, catalogue_of, filled_after, filled_of}
use Rattle.lists.specs.Parts.{parts_of}
use Rattle.names.specs.NamedReading.{dictionary_of, dictionary_reading, named_faults, named_reading, named_unfolding, unfolding_of}
use Rattle.names.specs.Unfold.{unfolded_by}
use Rattle.pairs.specs.Pairs.{pairs_reading}
use Rattle.slots.specs.Catalogue.{cut_reading, list_reading, listed_reading, services_reading}
use Rattle.blocks.specs.declared.Cause.{Cause}
use Rattle.blocks.specs.declared.Cause.TheVariants.{Count, Length, Room}

-- [R21] a refusal leaves every byte
pub refused-stays : (P D c list out : List ℕ) {k : Cause} {i p : ℕ} → catalogue_of P D c list out ≡ refused k i p → filled_of P D c list out ≡ out
unfolding filled_of
refused-stays P D c list out e = ap (filled_after (answers_of P D c list) out) e

-- ---- services in turn

-- as input i a service is accepted
pub record ServiceTaken (K : List (List Entry)) (i : ℕ) (d : List ℕ) : Type 0 where
  pub entries : ℕ
  pub taken : named_unfolding K i d ≡ Ok entries

-- the first that is refused decides, where those before it are accepted
first-refused : (K : List (List Entry)) (n : ℕ) (ds : List (List ℕ)) (i : ℕ) → i < length ds → ((j : ℕ) → j < i → ServiceTaken K (n + j) (get_or ds j []))
    → {k : Cause} {l p : ℕ} → named_unfolding K (n + i) (get_or ds i []) ≡ refused k l p → services_reading K n ds ≡ refused k l p
unfolding services_reading
first-refused K n [] i h before e = absurd (omega arith)
first-refused K n (d ∷ ds) zero h before e = let q = rw (add-zero n) at e in rw q
first-refused K n (d ∷ ds) (suc i) h before e =
    let f = rw (add-zero n) at (before 0 (omega arith)).taken in
    rw f (first-refused K (suc n) ds i (omega arith)
    (λ j l. rw (suc-add n j, ← add-suc n j) (before (suc j) (omega arith)))
    (rw (suc-add n i, ← add-suc n i) e))

-- none is refused
none-refused : (K : List (List Entry)) (n : ℕ) (ds : List (List ℕ)) → ((j : ℕ) → j < length ds → ServiceTaken K (n + j) (get_or ds j [])) → services_reading K n ds ≡ Ok 0
unfolding services_reading
none-refused K n [] all = refl
none-refused K n (d ∷ ds) all =
    let f = rw (add-zero n) at (all 0 (omega arith)).taken in
    rw f (none-refused K (suc n) ds (λ j l. rw (suc-add n j, ← add-suc n j) (all (suc j) (omega arith))))

-- and where they are all accepted, each is
pub each-taken : (K : List (List Entry)) (n : ℕ) (ds : List (List ℕ)) {m : ℕ} → services_reading K n ds ≡ Ok m → (j : ℕ) → j < length ds → ServiceTaken K (n + j) (get_or ds j [])
unfolding services_reading
each-taken K n [] e j h = absurd (omega arith)
each-taken K n (d ∷ ds) {m} e zero h =
    reading-cases (named_unfolding K n d)
    (λ k l p q. let z : refused k l p ≡ Ok m = rw q at e in let y : ◌≡◌ {A = ℕ} 0 1 = cc in absurd (omega arith))
    (λ t q. record { entries = t; taken = rw (add-zero n) q })
each-taken K n (d ∷ ds) {m} e (suc j) h =
    reading-cases (named_unfolding K n d)
    (λ k l p q. let z : refused k l p ≡ Ok m = rw q at e in let y : ◌≡◌ {A = ℕ} 0 1 = cc in absurd (omega arith))
    (λ t q. rw (add-suc n j, ← suc-add n j) (each-taken K (suc n) ds (rw q at e) j (omega arith)))

-- a service is refused as the input that it is
pub service-input : (K : List (List Entry)) (i : ℕ) (d : List ℕ) {k : Cause} {l p : ℕ} → named_unfolding K i d ≡ refused k l p → l ≡ i
unfolding named_unfolding named_reading
service-input K i d {k} {l} {p} e =
    reading-cases (named_reading K i d)
    (λ k' l' p' q.
    let z : refused k' l' p' ≡ refused k l p = rw q at e in
    let g : refusal k' l' p' ≡ refusal k l p = cc in
    let same : l ≡ l' = sym (ap (λ (r : Refusal). r.input) g) in
    omega (arith, (refused-finding i (total_in plain d) (first (named_faults K d)) q).0))
    (λ m q. let z : Ok (length (unfolded_by K (entries_of d))) ≡ refused k l p = rw q at e in let y : ◌≡◌ {A = ℕ} 0 1 = cc in absurd (omega arith))

-- ---- the ways

module _ (P D c list out : List ℕ) where
  abbrev answer : Reading
  answer = catalogue_of P D c list out

  -- 11 comes first
  pub refused-pairs : {k : Cause} {i p : ℕ} → pairs_reading P ≡ refused k i p → answer ≡ refused k i p
  unfolding catalogue_of list_reading
  refused-pairs e = rw e

  module _ {l : ℕ} (list-read : pairs_reading P ≡ Ok l) where
    -- then the dictionary
    pub refused-dictionary : {k : Cause} {i p : ℕ} → dictionary_reading D ≡ refused k i p → answer ≡ refused k i p
    unfolding catalogue_of list_reading unfolding_of
    refused-dictionary e = rw (list-read, e)

    module _ {m : ℕ} (dictionary-read : dictionary_reading D ≡ Ok m) where
      -- then the supplier in full, as input 1
      pub refused-supplier : {k : Cause} {i p : ℕ} → named_unfolding (dictionary_of D) 1 c ≡ refused k i p → answer ≡ refused k i p
      unfolding catalogue_of list_reading unfolding_of
      refused-supplier e = rw (list-read, dictionary-read, e)

      module _ {n : ℕ} (supplier-read : named_unfolding (dictionary_of D) 1 c ≡ Ok n) where
        -- what the list and its services give
        goes : {r : Reading} → listed_reading D list ≡ r → answer ≡ unless_refused Err r (cond (ltb (length out) (length (parts_of list))) (refused Room 0 0) (Ok (length (parts_of list))))
        unfolding catalogue_of list_reading unfolding_of
        goes e = rw (list-read, dictionary-read, supplier-read, e)

        -- then 1 of a list of length 0 [L6]
        pub refused-empty : length list ≡ 0 → answer ≡ refused Length 2 0
        unfolding listed_reading cut_reading
        refused-empty z = goes {r = refused Length 2 0} (rw (eq-eqb z))

        module _ (some : length list ≢ 0) where
          -- [L6] or no multiple of 512
          pub refused-broken : length list % 512 ≢ 0 → answer ≡ refused Length 2 0
          unfolding listed_reading cut_reading
          refused-broken z = goes {r = refused Length 2 0} (rw (ne_eqb some, ne_eqb z))

          module _ (whole : length list % 512 ≡ 0) where
            -- then 8 for more than 64 services [R8]
            pub refused-many : 64 < length (parts_of list) → answer ≡ refused Count 2 0
            unfolding listed_reading cut_reading
            refused-many z = goes {r = refused Count 2 0} (rw (ne_eqb some, eq-eqb whole, lt-ltb z))

            module _ (few : length (parts_of list) ≤ 64) where
              -- then the services: the first that is refused decides, [L5] its input is 1 and its position, and none
              -- before it is
              pub refused-service : (i : ℕ) → i < length (parts_of list) → ((j : ℕ) → j < i → ServiceTaken (dictionary_of D) (2 + j) (get_or (parts_of list) j []))
                  → {k : Cause} {l p : ℕ} → named_unfolding (dictionary_of D) (2 + i) (get_or (parts_of list) i []) ≡ refused k l p → answer ≡ refused k l p
              unfolding listed_reading cut_reading
              refused-service i h before {k} {l} {p} e =
                  let r = first-refused (dictionary_of D) 2 (parts_of list) i h before e in
                  goes {r = refused k l p} (rw (ne_eqb some, eq-eqb whole, ge-ltb few, r))

              module _ (all : (j : ℕ) → j < length (parts_of list) → ServiceTaken (dictionary_of D) (2 + j) (get_or (parts_of list) j [])) where
                taken : listed_reading D list ≡ Ok (length (parts_of list))
                unfolding listed_reading cut_reading
                taken = let r = none-refused (dictionary_of D) 2 (parts_of list) all in rw (ne_eqb some, eq-eqb whole, ge-ltb few, r)

                -- [L7] 7 last, for fewer bytes than services
                pub refused-short : length out < length (parts_of list) → answer ≡ refused Room 0 0
                refused-short h = goes taken ∙ rw (lt-ltb h)

                -- and else all are filled
                pub all-filled : length (parts_of list) ≤ length out → answer ≡ Ok (length (parts_of list))
                all-filled h = goes taken ∙ rw (ge-ltb h)
