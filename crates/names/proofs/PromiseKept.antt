-- What is promised of unfolding, for what is accepted.
-- Assumes nothing.
use Prim.Native.Nat.{suc, ℕ}
use lib.ListN.{length}
use mathlib.Core.List.{List, [], ◌∷◌}
use mathlib.Core.Path.{◌≡◌}
use native.Mathlib.Omega.{arith}
use Rattle.blocks.proofs.RoundTrip.Accepting.{encoded-accepted}
use Rattle.blocks.proofs.RoundTrip.Decoding.{decode-encode}
use Rattle.blocks.specs.Encoding.{encode}
use Rattle.blocks.specs.Entries.{entries_of}
use Rattle.blocks.specs.Reading.{reading_of}
use Rattle.blocks.specs.declared.Entry.{Entry}
use Rattle.std.specs.Prelude.{Ok}
use Rattle.blocks.specs.declared.Schema.TheVariants.{Description}
use Rattle.names.proofs.Legality.UnfoldLegal.{contents-within, legal-plain, named-within, unfold-legal}
use Rattle.names.proofs.Meaning.UnfoldMeans.{unfold-means}
use Rattle.names.specs.Measures.{levels_named, levels_nth, size_named, size_nth}
use Rattle.names.specs.Promise.{AcceptedNamed, Each, EachAfter, LegalNamed, OwnersOk, UnfoldsPlainly, Within}
use Rattle.names.specs.Unfold.{unfolded_by}

-- the owners of a dictionary's descriptions are allowed
each-owners : (k : ℕ) (K : List (List Entry)) → EachAfter LegalNamed k K → EachAfter (λ k d. OwnersOk d) k K
each-owners k [] h = tt
each-owners k (d ∷ K) h = (h.0.owner, each-owners (suc k) K h.1)

-- [D7] the unfolded description means the same
pub unfolds-plainly : (K : List (List Entry)) (es : List Entry) → AcceptedNamed K es → UnfoldsPlainly K es
unfolds-plainly K es A =
    let legal = unfold-legal K es A in
    record {
      legal = legal;
      plain = legal-plain (unfolded_by K es) legal;
      means = unfold-means K es (each-owners 0 K A.dictionary.each) A.legal.owner;
    }

-- its blocks are accepted, and have these entries
pub unfolded-accepted : (K : List (List Entry)) (es : List Entry) → AcceptedNamed K es → (i : ℕ)
    → (reading_of Description i (encode (unfolded_by K es)) ≡ Ok (length (unfolded_by K es))) × (entries_of (encode (unfolded_by K es)) ≡ unfolded_by K es)
unfolded-accepted K es A i =
    (encoded-accepted Description i (unfolded_by K es) (unfold-legal K es A) tt (omega (arith, A.small.size)), decode-encode (unfolded_by K es))

-- a dictionary and a description are accepted exactly by their entries and by what is worked out of them: nothing has to be unfolded
pub accepted-within : (K : List (List Entry)) (es : List Entry) → Each LegalNamed K → ((n : ℕ) → Within (size_nth K n) (levels_nth K n))
    → LegalNamed (length K) es → Within (size_named K es) (levels_named K es) → AcceptedNamed K es
accepted-within K es each all N W = record {
  dictionary = record { each = each; small = λ n. (contents-within K each n).0 (all n) };
  legal = N;
  small = (named-within K each (length K) es N).0 W;
}

pub within-accepted : (K : List (List Entry)) (es : List Entry) → AcceptedNamed K es
    → ((n : ℕ) → Within (size_nth K n) (levels_nth K n)) × Within (size_named K es) (levels_named K es)
within-accepted K es A =
    let each = A.dictionary.each in
    (λ n. (contents-within K each n).1 (A.dictionary.small n), (named-within K each (length K) es A.legal).1 A.small)
