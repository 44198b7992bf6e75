-- A description with entries that say nothing in place of some: it is legal, its entries stand at the same paths, and
-- an item fits it exactly if it meets those that are kept.
-- Assumes nothing.
use Prim.Native.Nat.{◌+◌, ◌<◌, ◌≤◌, suc, zero, ℕ}
use lib.Dec.{eqb, leb}
use lib.ListN.{get_or, length}
use mathlib.Core.Bool.{Bool, ◌||◌, cond, true}
use mathlib.Core.List.{List, [], ◌∷◌}
use mathlib.Core.Logic.{◌≢◌, ◌↔◌}
use mathlib.Core.Path.{◌∙◌, ◌≡◌, ap, refl}
use native.Mathlib.Omega.{arith}
use Rattle.base.proofs.Tests.{bool_cases, eq-cases, eq-eqb, ne_eqb, or_left, tests}
use Rattle.blocks.proofs.Refusing.Legal.{owner-earlier, owner-kind}
use Rattle.blocks.specs.Entries.{form_ok, name_ok, nth, number_ok, zero_entry}
use Rattle.blocks.specs.Owners.{chain, depth_of, depth_ok, owner_of, owner_ok}
use Rattle.blocks.specs.Promise.{Legal}
use Rattle.blocks.specs.declared.Entry.{Entry}
use Rattle.blocks.specs.declared.Schema.TheVariants.{Description}
use Rattle.logic.proofs.Records.Along.{along-follows}
use Rattle.logic.specs.Background.{Background}
use Rattle.logic.specs.Place.{kind_of}
use Rattle.logic.specs.Record.{Record, along, fits, meets, successors}
use Rattle.meaning.proofs.Descriptions.Paths.{fits-paths, paths-fit}
use Rattle.meaning.specs.Description.{atom_of, links_to, links_up, place_of}
use Rattle.meaning.specs.Promise.{Subsumed}
use Rattle.narrow.proofs.Keeping.KeepLaws.{Part}
use Rattle.narrow.specs.Keeping.{neutral, thinned}

-- ---- entry by entry

-- entry n of the thinned list
abbrev pub left_at : (ℕ → Bool) → ℕ → Entry → Entry
left_at K n e = cond (eqb e.kind 5 || K n) e (neutral e)

length-thinned : (K : ℕ → Bool) (k : ℕ) (es : List Entry) → length (thinned K k es) ≡ length es
unfolding thinned
length-thinned K k [] = refl
length-thinned K k (e ∷ es) = ap suc (length-thinned K (suc k) es)

get-thinned : (K : ℕ → Bool) (k : ℕ) (es : List Entry) (i : ℕ) → i < length es
    → get_or (thinned K k es) i zero_entry ≡ left_at K (k + i) (get_or es i zero_entry)
unfolding thinned
get-thinned K k [] i h = absurd (omega arith)
get-thinned K k (e ∷ es) zero h = let w : k + 0 ≡ k = omega arith in rw w
get-thinned K k (e ∷ es) (suc i) h = let w : k + suc i ≡ suc k + i = omega arith in rw w (get-thinned K (suc k) es i (omega arith))

module _ (K : ℕ → Bool) (es : List Entry) where
  abbrev pub T : List Entry
  T = thinned K 1 es

  pub size : length T ≡ length es
  size = length-thinned K 1 es

  pub nth-thinned : (n : ℕ) → 1 ≤ n → n ≤ length es → nth T n ≡ left_at K n (nth es n)
  unfolding nth
  nth-thinned zero lo hi = absurd (omega arith)
  nth-thinned (suc i) lo hi = let w : 1 + i ≡ suc i = omega arith in rw (← w) (get-thinned K 1 es i (omega arith))

  same-owner : (n : ℕ) → 1 ≤ n → n ≤ length es → owner_of T n ≡ owner_of es n
  unfolding owner_of
  same-owner n lo hi =
      ap (λ (e : Entry). e.owner) (nth-thinned n lo hi) ∙ bool_cases (eqb (nth es n).kind 5 || K n) (λ q. rw q) (λ q. rw q)

  -- an 'every' stays
  every-stays : (n : ℕ) → 1 ≤ n → n ≤ length es → (nth es n).kind ≡ 5 → nth T n ≡ nth es n
  every-stays n lo hi z = rw (nth-thinned n lo hi, eq-eqb z)

  module _ (L : Legal Description es) where
    owner-stays : (n : ℕ) → 1 ≤ n → n ≤ length es → owner_of es n ≢ 0 → nth T (owner_of es n) ≡ nth es (owner_of es n)
    owner-stays n lo hi z = every-stays (owner_of es n) (omega arith) (omega (arith, owner-earlier L n lo hi)) (owner-kind L n lo hi z)

    form-thinned : (n : ℕ) → 1 ≤ n → n ≤ length es → form_ok Description (nth T n) ≡ true
    unfolding form_ok name_ok number_ok
    form-thinned n lo hi =
        rw (nth-thinned n lo hi)
        (bool_cases (eqb (nth es n).kind 5 || K n) (λ q. rw q (unfold form_ok name_ok number_ok in L.form n lo hi)) (λ q. rw q))

    owner-thinned : (n : ℕ) → 1 ≤ n → n ≤ length es → owner_ok Description T n ≡ true
    unfolding owner_ok
    owner-thinned n lo hi =
        rw (same-owner n lo hi)
        (eq-cases (owner_of es n) 0
        (λ z. or_left _ (eq-eqb z))
        (λ z. rw (owner-stays n lo hi z) (unfold owner_ok in L.owner n lo hi)))

    chain-thinned : (f n : ℕ) → 1 ≤ n → n ≤ length es → chain T f n ≡ chain es f n
    unfolding chain
    chain-thinned zero n lo hi = refl
    chain-thinned (suc f) n lo hi =
        rw (same-owner n lo hi)
        (eq-cases (owner_of es n) 0
        (λ z. rw (eq-eqb z))
        (λ z. rw (ne_eqb z) (ap suc (chain-thinned f (owner_of es n) (omega arith) (omega (arith, owner-earlier L n lo hi))))))

    pub legal-thinned : Legal Description T
    legal-thinned =
        record {
          form = λ n lo hi. form-thinned n lo (rw size at hi);
          owner = λ n lo hi. owner-thinned n lo (rw size at hi);
          depth = λ n lo hi. unfold depth_ok depth_of in rw (chain-thinned n n lo (rw size at hi)) (unfold depth_ok depth_of in L.depth n lo (rw size at hi));
        }

    links-thinned : (f n : ℕ) → 1 ≤ n → n ≤ length es → links_up T f n ≡ links_up es f n
    unfolding links_up
    links-thinned zero n lo hi = refl
    links-thinned (suc f) n lo hi =
        rw (same-owner n lo hi)
        (eq-cases (owner_of es n) 0
        (λ z. rw (eq-eqb z))
        (λ z. rw (ne_eqb z, owner-stays n lo hi z, links-thinned f (owner_of es n) (omega arith) (omega (arith, owner-earlier L n lo hi)))))

    pub same-path : (n : ℕ) → 1 ≤ n → n ≤ length es → links_to T n ≡ links_to es n
    unfolding links_to
    same-path n lo hi = links-thinned n n lo hi

    -- ---- what it means

    module _ (c : Record) (x : ℕ) where
      -- item x meets each kept entry along its path
      abbrev pub MeetsKept : Type 0
      MeetsKept = (n : ℕ) → 1 ≤ n → n ≤ length es → (nth es n).kind ≢ 5 → K n ≡ true → along c (links_to es n) x (meets c (atom_of (nth es n))) ≡ true

      idle : (w : List ℕ) (n : ℕ) → along c w x (meets c (atom_of (neutral (nth es n)))) ≡ true
      unfolding kind_of
      idle w n =
          along-follows c {I = ⊥} (λ i y. true) (meets c (atom_of (neutral (nth es n))))
          (λ y h. let z : leb 0 (successors c 1 y) ≡ true = omega tests in z) w x (λ i. absurd i)

      fits-kept : fits c (place_of T 0) x ≡ true → MeetsKept
      fits-kept h n lo hi z k =
          let e : nth T n ≡ nth es n = nth-thinned n lo hi ∙ rw (ne_eqb z, k) in
          rw (e, same-path n lo hi) at (fits-paths c T legal-thinned x h n lo (rw size hi) (rw e z))

      kept-fits : MeetsKept → fits c (place_of T 0) x ≡ true
      kept-fits h =
          paths-fit c T legal-thinned x
          (λ n lo hi z.
          let hi' : n ≤ length es = rw size at hi in
          rw (same-path n lo hi')
          (eq-cases (nth es n).kind 5
          (λ q. absurd (z (rw (every-stays n lo hi' q) q)))
          (λ q. bool_cases (K n)
          (λ k. rw (nth-thinned n lo hi', ne_eqb q, k) (h n lo hi' q k))
          (λ k. rw (nth-thinned n lo hi', ne_eqb q, k) (idle (links_to es n) n)))))

      pub fits-exactly : (fits c (place_of T 0) x ≡ true) ↔ MeetsKept
      fits-exactly = (fits-kept, kept-fits)

-- the more is kept, the fewer items fit
pub thinner-subsumed : {b : Background} (K M : ℕ → Bool) (es : List Entry) → Legal Description es → Part K M
    → Subsumed b (place_of (thinned M 1 es) 0) (place_of (thinned K 1 es) 0)
thinner-subsumed K M es L p r kept x i h =
    (fits-exactly K es L r x).1 (λ n lo hi z k. (fits-exactly M es L r x).0 h n lo hi z (p n k))
