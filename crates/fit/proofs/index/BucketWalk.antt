-- Walks over the entries of one bucket, from the last to the first, by the index.
-- Assumes nothing.
use Prim.Native.Nat.{◌+◌, ◌-◌, ◌<◌, ◌≤◌, suc, zero, ℕ}
use lib.Dec.{eqb}
use lib.ListN.{get_or, length, length-replicate, length-set, replicate, set}
use lib.Seq.{get_or-set_other, get_or-set_same}
use mathlib.Core.Bool.{Bool, false, not, true}
use mathlib.Core.List.{List}
use mathlib.Core.Logic.{◌≢◌}
use mathlib.Core.Path.{◌∙◌, ◌≡◌, ap, refl, sym}
use native.Mathlib.Numerals.{sub-one}
use native.Mathlib.Omega.{arith}
use Rattle.std.specs.Prelude.{Some}
use Rattle.base.proofs.ChainLaws.{chains-more, chains-start, skip-goes, skip-starts, walk-falls, walk-goes, walk-starts}
use Rattle.base.proofs.Lists.{zeros-read}
use Rattle.base.proofs.Tests.{bool_cases, eq-eqb, eqb-eq, or-one}
use Rattle.base.specs.Chain.{OnChain}
use Rattle.blocks.specs.Entries.{entries_of}
use Rattle.blocks.specs.declared.Schema.{Schema}
use Rattle.fit.specs.code.Index.{Falls, Has, Indexed, Ready, StepsBack, bucket_of, chained}
use Rattle.meaning.specs.Owned.{all_where}

module _ (c : ℕ → ℕ) where
  -- ---- an entry that is not the bucket's

  skip_all : (p : ℕ → Bool) (b k : ℕ) → eqb (c (suc k)) b ≡ false → all_where c p b (suc k) ≡ all_where c p b k
  unfolding all_where
  skip_all p b k q = rw q

  -- ---- an entry of the bucket

  all_yes : (p : ℕ → Bool) (b k : ℕ) → k ≢ 0 → p k ≡ true → all_where c p b k ≡ all_where c p b (k - 1)
  unfolding all_where
  all_yes p b zero z y = absurd (z refl)
  all_yes p b (suc k) z y = rw (all_where, y, or-one (not (eqb (c (suc k)) b)), sub-one)

  pub all-no : (p : ℕ → Bool) (b k : ℕ) → k ≢ 0 → c k ≡ b → p k ≡ false → all_where c p b k ≡ false
  unfolding all_where
  all-no p b zero z q y = absurd (z refl)
  all-no p b (suc k) z q y = rw (all_where, y, eq-eqb q)

  -- ---- the entries of the bucket alone count

  pub where-ext : (p q : ℕ → Bool) (b n : ℕ) → ((k : ℕ) → c k ≡ b → p k ≡ q k) → all_where c p b n ≡ all_where c q b n
  unfolding all_where
  where-ext p q b zero h = refl
  where-ext p q b (suc n) h =
      bool_cases (eqb (c (suc n)) b)
      (λ e. rw (e, h (suc n) (eqb-eq e), where-ext p q b n h))
      (λ e. rw (e, where-ext p q b n h))

  -- ---- the end of a walk

  pub all-ends : (p : ℕ → Bool) (b : ℕ) {k : ℕ} → k ≡ 0 → all_where c p b k ≡ true
  unfolding all_where
  all-ends p b e = rw e

-- ---- a walk

-- A chain over the table t of bucket b, of numbers 1 to n, has come to number k, or to the end: what f tells from there back is the answer.
pub record Walk {A : Type 0} (c : ℕ → ℕ) (b n : ℕ) (f : ℕ → A) (answer : A) (t : List ℕ) (most : ℕ) (table : List ℕ) (m k : ℕ) : Type 0 where
  pub on : OnChain c b k n
  pub tells : answer ≡ f k
  pub same-table : table ≡ t
  pub same-most : m ≡ most

module _ {c : ℕ → ℕ} {most n : ℕ} {t : List ℕ} (I : Indexed most c t n) where
  -- numbers fall along it
  falls_from : {k : ℕ} → k ≤ n → Falls most t k
  falls_from h = record {
    room = omega (arith, I.size, I.below);
    lower = λ j lo hi. walk-falls I.chains (c j) (record { bound = omega (arith, hi, h); bucket = λ z. refl }) (λ z. omega arith) refl;
  }

  pub falls_bucket : {b : ℕ} → b < most → (b < length t) × Falls most t (get_or t b 0)
  falls_bucket {b} h = (omega (arith, I.size), falls_from (walk-starts I.chains b h refl).bound)

  -- what numbers of other buckets do not change
  module _ {A : Type 0} (b : ℕ) (f : ℕ → A) (skip : (i : ℕ) → eqb (c (suc i)) b ≡ false → f (suc i) ≡ f i) where
    -- it begins at the last number
    pub walk-first : {answer : A} {table : List ℕ} {m k : ℕ} → answer ≡ f n → b < most → table ≡ t → m ≡ most → k ≡ get_or t b 0
        → Walk c b n f answer t most table m k
    walk-first is h a d e = record { on = walk-starts I.chains b h e; tells = is ∙ skip-starts I.chains b h e f skip; same-table = a; same-most = d }

    -- it goes on to the number before
    pub walk-on : {answer : A} {table table' : List ℕ} {m m' k k' i : ℕ} → Walk c b n f answer t most table m k → StepsBack table m k (Some i) table' m' k'
        → f i ≡ f (i - 1) → Walk c b n f answer t most table' m' k'
    walk-on {answer} {table} {table'} {m} {m'} {k} {k'} {i} W s y =
        let z : k ≢ 0 = λ q. s.0.1 (s.0.0 ∙ q) in
        let e : k' ≡ get_or t (most + k) 0 =
        s.0.2 ∙ ap (λ (x : List ℕ). get_or x (m + k) 0) W.same-table ∙ ap (λ (x : ℕ). get_or t (x + k) 0) W.same-most in
        record {
          on = walk-goes I.chains b W.on z e;
          tells = W.tells ∙ (rw s.0.0 at y) ∙ skip-goes I.chains b W.on z e f skip;
          same-table = s.1 ∙ W.same-table;
          same-most = s.2 ∙ W.same-most;
        }

-- the number that it comes to is on it
module _ {A : Type 0} {c : ℕ → ℕ} {b n : ℕ} {f : ℕ → A} {answer : A} {t : List ℕ} {most : ℕ} {table table' : List ℕ} {m m' k k' i : ℕ}
    (W : Walk c b n f answer t most table m k) (s : StepsBack table m k (Some i) table' m' k') where
  pub walk-at : OnChain c b i n
  walk-at = rw (sym s.0.0) at W.on

  pub walk-tells : answer ≡ f i
  walk-tells = rw (sym s.0.0) at W.tells

-- an entry on it is there
pub has-entry : {σ : Schema} {most : ℕ} {s : List ℕ} {t : List ℕ} {k : ℕ} → Ready σ most s t → k ≤ length (entries_of s) → k ≢ 0 → Has s k
has-entry R h z = record { some = omega arith; within = h; few = omega (arith, R.index.below, R.index.sized); whole = R.whole }

-- ---- a walk over entries of which all are to pass

-- the buckets of an input's entries
abbrev pub buckets : Schema → ℕ → List ℕ → ℕ → ℕ
buckets σ most s = bucket_of σ most (entries_of s)

-- those from number k back tell the answer
abbrev pub Passing : Schema → ℕ → List ℕ → (ℕ → Bool) → ℕ → Bool → List ℕ → List ℕ → ℕ → ℕ → Type 0
Passing σ most s p b answer t table m k = Walk (buckets σ most s) b (length (entries_of s)) (all_where (buckets σ most s) p b) answer t most table m k

module _ {σ : Schema} {most : ℕ} {s : List ℕ} {t : List ℕ} (R : Ready σ most s t) (p : ℕ → Bool) (b : ℕ) where
  -- it begins at the last entry
  pub pass-first : {answer : Bool} {table : List ℕ} {m k : ℕ} → answer ≡ all_where (buckets σ most s) p b (length (entries_of s)) → b < most
      → table ≡ t → m ≡ most → k ≡ get_or t b 0 → Passing σ most s p b answer t table m k
  pass-first is h a d e = walk-first R.index b (all_where (buckets σ most s) p b) (skip_all (buckets σ most s) p b) is h a d e

  module _ {answer : Bool} {table : List ℕ} {m k : ℕ} (W : Passing σ most s p b answer t table m k) where
    -- it goes on past an entry that passes
    pub pass-on : {table' : List ℕ} {m' k' i : ℕ} → StepsBack table m k (Some i) table' m' k' → p i ≡ true → Passing σ most s p b answer t table' m' k'
    pass-on {i = i} q y = walk-on R.index b (all_where (buckets σ most s) p b) (skip_all (buckets σ most s) p b) W q (all_yes (buckets σ most s) p b i q.0.1 y)

    -- one that does not decides
    pub pass-no : {table' : List ℕ} {m' k' i : ℕ} → StepsBack table m k (Some i) table' m' k' → p i ≡ false → answer ≡ false
    pass-no {i = i} q y = walk-tells W q ∙ all-no (buckets σ most s) p b i q.0.1 ((walk-at W q).bucket q.0.1) y

    -- at the end all passed
    pub pass-ends : k ≡ 0 → answer ≡ true
    pass-ends z = W.tells ∙ all-ends (buckets σ most s) p b z

    -- the entry that it comes to is there
    pub pass-has : {table' : List ℕ} {m' k' i : ℕ} → StepsBack table m k (Some i) table' m' k' → Has s i
    pass-has q = has-entry R (walk-at W q).bound q.0.1

-- ---- the index

pub index-starts : (most : ℕ) (c : ℕ → ℕ) {t : List ℕ} → 0 < most → most ≤ 2048 → t ≡ replicate (most + most) 0 → Indexed most c t 0
index-starts most c {t} pos small e = record {
  sized = small;
  below = pos;
  size = ap length e ∙ length-replicate {A = ℕ} (most + most) 0;
  chains = chains-start c (λ k. get_or t (most + k) 0) (λ b h. zeros-read (most + most) e b);
}

-- a number more, put in front of the chain of its bucket; the buckets of the others are what they were
pub index-more : {most : ℕ} {c c' : ℕ → ℕ} {t t' : List ℕ} {n m b : ℕ} → Indexed most c t n → m ≡ suc n → m < most → ((k : ℕ) → k ≢ m → c' k ≡ c k)
    → c' m ≡ b → b < most → t' ≡ chained t most m b → Indexed most c' t' m
unfolding chained
index-more {most} {c} {c'} {t} {t'} {n} {m} {b} I is below old new l e =
    let x = get_or t b 0 in
    let u = set t (most + m) x in
    let long : length u ≡ most + most = length-set t (most + m) x ∙ I.size in
    rw e (record {
      sized = I.sized;
      below = below;
      size = length-set u b m ∙ long;
      chains = chains-more I.chains is old new l
          (λ k z. get_or-set_other u b (most + k) m 0 (λ y. omega arith) ∙ get_or-set_other t (most + m) (most + k) x 0 (λ y. omega arith))
          (get_or-set_other u b (most + m) m 0 (λ y. omega arith) ∙ get_or-set_same t (most + m) x 0 (omega (arith, I.size)))
          (λ q h z. get_or-set_other u b q m 0 z ∙ get_or-set_other t (most + m) q x 0 (λ y. omega arith))
          (get_or-set_same u b m 0 (omega arith));
    })
