-- An unfolded description is legal; and 14 by sizes and levels that are worked out without unfolding is 14 by what is unfolded.
-- Assumes nothing.
use Prim.Native.Nat.{◌≤◌, ℕ}
use lib.ListN.{length}
use mathlib.Core.Bool.{false, true}
use mathlib.Core.List.{List, []}
use mathlib.Core.Path.{◌∙◌, ◌≡◌, ap, fun_ext, refl}
use native.Mathlib.Omega.{arith}
use Rattle.base.proofs.Tests.{leb-le, tests}
use Rattle.blocks.proofs.Refusing.Legal.{form-kind}
use Rattle.blocks.specs.Entries.{form_ok, is_named, nth}
use Rattle.blocks.specs.Owners.{depth_of, depth_ok}
use Rattle.blocks.specs.Promise.{Legal}
use Rattle.blocks.specs.declared.Entry.{Entry}
use Rattle.blocks.specs.declared.Schema.TheVariants.{Description}
use Rattle.names.proofs.Dictionary.InTurn.{in-turn}
use Rattle.names.proofs.Entries.EachEntry.{EachEntry, each-of-numbers, numbers-of-each, unfold-each}
use Rattle.names.proofs.Entries.OwnersByNumber.{owners-of-numbers}
use Rattle.names.proofs.Legality.UnfoldOwners.{unfold-owners-ok}
use Rattle.names.proofs.Measured.LevelsDepth.{depth-within, levels-within}
use Rattle.names.proofs.Measured.UnfoldLevels.{unfold-levels}
use Rattle.names.proofs.Measured.UnfoldSize.{contents-size, named-size}
use Rattle.names.specs.Measures.{levels_by, levels_from, levels_named, levels_nth, levels_of, size_named, size_nth}
use Rattle.names.specs.NamedForm.{named_form_ok}
use Rattle.names.specs.Promise.{AcceptedNamed, Each, FormsOk, LegalDictionary, LegalNamed, OwnersOk, Plain, SmallEnough, Within}
use Rattle.names.specs.Unfold.{contents, unfolded, unfolded_by}

-- an entry has a form that plain descriptions allow
abbrev Formed : Entry → Type 0
Formed e = form_ok Description e ≡ true

-- a list of entries of allowed forms, with allowed owners, and l levels
record Built (es : List Entry) (l : ℕ) : Type 0 where
  form : EachEntry Formed es
  owner : OwnersOk es
  levels : levels_of es ≡ l

-- it is legal if there are no more than 33
built-legal : (es : List Entry) (l : ℕ) → Built es l → l ≤ 33 → Legal Description es
unfolding depth_ok
built-legal es l B h = record {
  form = numbers-of-each Formed es B.form;
  owner = B.owner;
  depth = λ n lo hi. let d = depth-within es B.owner 33 (omega (arith, B.levels)) n lo hi in omega tests;
}

small-legal : (es : List Entry) (l : ℕ) → Built es l → SmallEnough es → Legal Description es
small-legal es l B S = record { form = numbers-of-each Formed es B.form; owner = B.owner; depth = S.depth }

-- its depths are at most 32 exactly if there are at most 33 levels
within-small : (es : List Entry) (m l : ℕ) → length es ≡ m → Built es l → (Within m l → SmallEnough es) × (SmallEnough es → Within m l)
unfolding depth_ok
within-small es m l size B = (
  λ W. record { size = omega (arith, W.few); depth = (built-legal es l B W.shallow).depth },
  λ S.
      let deep = levels-within es B.owner 33 (λ n lo hi. let d : depth_of es n ≤ 32 = leb-le (S.depth n lo hi) in omega arith) in
      record { few = omega (arith, S.size); shallow = omega (arith, B.levels) },
)

-- nothing is built of nothing
built-none : Built [] 0
unfolding levels_from
built-none = record { form = tt; owner = λ n lo hi. absurd (omega arith); levels = refl }

-- an entry that is no name
form-plain : (e : Entry) → named_form_ok e ≡ true → is_named e ≡ false → Formed e
unfolding named_form_ok
form-plain e h q = rw q at h

-- a description unfolded by what is built
built-unfolded : (T : ℕ → List Entry) (L : ℕ → ℕ) (es : List Entry) → ((n : ℕ) → Built (T n) (L n))
    → FormsOk es → OwnersOk es → Built (unfolded T es) (levels_by L es)
unfolding form_ok
built-unfolded T L es B form own =
    record {
      form = unfold-each Formed (λ o e h. h) T es (λ n lo hi. (λ q. (B (nth es n).name).form, form-plain (nth es n) (form n lo hi)));
      owner = unfold-owners-ok T (λ n. (B n).owner) es own;
      levels = unfold-levels (λ n. 1) T (λ n. owners-of-numbers (T n) (B n).owner) es (owners-of-numbers es own)
          ∙ ap (λ (f : ℕ → ℕ). levels_by f es) (fun_ext (λ n. (B n).levels));
    }

-- ---- contents of any origin

-- a description with names that stand for legal contents is legal, once unfolded, if it has no more than 33 levels then
pub unfold-legal-by : (T : ℕ → List Entry) → ((n : ℕ) → Legal Description (T n)) → (most : ℕ) (es : List Entry) → LegalNamed most es
    → levels_by (λ n. levels_of (T n)) es ≤ 33 → Legal Description (unfolded T es)
unfold-legal-by T legal most es N h =
    built-legal (unfolded T es) (levels_by (λ n. levels_of (T n)) es)
    (built-unfolded T (λ n. levels_of (T n)) es
    (λ n. record { form = each-of-numbers Formed (T n) (legal n).form; owner = (legal n).owner; levels = refl }) N.form N.owner)
    h

-- ---- the contents of a dictionary

contents-built : (K : List (List Entry)) → Each LegalNamed K → (n : ℕ) → Built (contents K n) (levels_nth K n)
unfolding contents levels_nth
contents-built K each =
    in-turn Built LegalNamed unfolded levels_by (λ k T L d N B. built-unfolded T L d B N.form N.owner) 0 (λ n. []) (λ n. 0) K each (λ n. built-none)

named-built : (K : List (List Entry)) → Each LegalNamed K → (most : ℕ) (es : List Entry) → LegalNamed most es → Built (unfolded_by K es) (levels_named K es)
unfolding unfolded_by levels_named
named-built K each most es N = built-unfolded (contents K) (levels_nth K) es (contents-built K each) N.form N.owner

-- the contents of each description of a dictionary are a legal description
pub contents-legal : (K : List (List Entry)) → LegalDictionary K → (n : ℕ) → Legal Description (contents K n)
contents-legal K D n = small-legal (contents K n) (levels_nth K n) (contents-built K D.each n) (D.small n)

-- and so is an accepted description, once unfolded
pub unfold-legal : (K : List (List Entry)) (es : List Entry) → AcceptedNamed K es → Legal Description (unfolded_by K es)
unfold-legal K es A = small-legal (unfolded_by K es) (levels_named K es) (named-built K A.dictionary.each (length K) es A.legal) A.small

-- ---- 14 by sizes and levels that are worked out without unfolding

-- of the contents of a dictionary
pub contents-within : (K : List (List Entry)) → Each LegalNamed K → (n : ℕ)
    → (Within (size_nth K n) (levels_nth K n) → SmallEnough (contents K n)) × (SmallEnough (contents K n) → Within (size_nth K n) (levels_nth K n))
contents-within K each n = within-small (contents K n) (size_nth K n) (levels_nth K n) (contents-size K n) (contents-built K each n)

-- of a description
pub named-within : (K : List (List Entry)) → Each LegalNamed K → (most : ℕ) (es : List Entry) → LegalNamed most es
    → (Within (size_named K es) (levels_named K es) → SmallEnough (unfolded_by K es)) × (SmallEnough (unfolded_by K es) → Within (size_named K es) (levels_named K es))
named-within K each most es N =
    within-small (unfolded_by K es) (size_named K es) (levels_named K es) (named-size K es) (named-built K each most es N)

-- ---- no names are left

-- a legal description has no names
pub legal-plain : (es : List Entry) → Legal Description es → Plain es
legal-plain es L n lo hi = let k = form-kind (nth es n) (L.form n lo hi) in omega (tests, k.1)
