-- What the contracts of the exported calls say beside their equations.
-- Assumes nothing.
use Rattle.std.proofs.Common.{◌≡◌, ℕ, List, [], Ok, sym, refl, ap, ◌∙◌, arith}
use Rattle.answers.proofs.Nameless.{comparison-nameless, fit-nameless, normal-nameless}
use Rattle.answers.proofs.Order.{comparison-refused-exactly, fit-refused-exactly, normal-refused-exactly}
use Rattle.answers.proofs.PromiseKept.{comparison-unchanged, normal-unchanged}
use Rattle.answers.proofs.Sent.{own_read}
use Rattle.answers.proofs.Ways.{normalised-ready}
use Rattle.answers.specs.Calls.{CountsPlainly, DecidedPlainly, FitsPlainly, NormalisesPlainly, NothingWritten, ReadExactly, RefusedExactly}
use Rattle.answers.specs.Refusals.{ComparisonRefused, FitRefused, NormalRefused}
use Rattle.blocks.proofs.RoundTrip.Accepting.{accepted-by-none, first-of-refused, none-of-accepted, refused-by-first}
use Rattle.blocks.specs.Reading.{reading_of}
use Rattle.blocks.specs.declared.Schema.TheVariants.{Specimen}
use Rattle.blocks.specs.declared.Schema.{Schema}
use Rattle.clashes.proofs.Ways.{empty-reading}
use Rattle.compare.proofs.Demand.{decided}
use Rattle.compare.specs.Promise.{Comparable}
use Rattle.fit.proofs.PromiseKept.{fit-exactly}
use Rattle.fit.specs.Counted.{groups_in, table_adds}
use Rattle.fit.specs.Promise.{Judgeable}
use Rattle.named.specs.Answer.{compare_named, fit_named, normalise_named, normalised_named, output_named}
use Rattle.lists.specs.Parts.{parts_from, parts_of}
use Rattle.names.specs.NamedReading.{dictionary_reading, parts_reading}
use Rattle.normal.proofs.PromiseKept.{normalised-means}
use Rattle.pairs.proofs.PairsAccepted.{right-pairs}
use Rattle.pairs.specs.Promise.{ListRead}

-- ---- reading

pub read_exactly : (σ : Schema) (s : List ℕ) → ReadExactly σ s
read_exactly σ s = record {
  refuses = λ k i p. (first-of-refused σ 1 s, λ h. let z = h.0 in rw z (refused-by-first σ 1 s h.1));
  accepts = λ n. (none-of-accepted σ 1 s, λ h. accepted-by-none σ 1 s h.0 ∙ ap Ok (sym h.1));
}

-- ---- with no pairs and no dictionary

list-read : ListRead []
list-read = record {
  count = 0;
  list_read = right-pairs [] {n = 0} (record { whole = refl; few = omega arith; right = λ i lo hi. absurd (omega arith) });
}

none-taken : dictionary_reading [] ≡ Ok 0
unfolding dictionary_reading parts_reading parts_of parts_from
none-taken = refl

pub fits_plainly : (s d : List ℕ) → Judgeable [] s d → FitsPlainly s d
fits_plainly s d J = record { answer = fit-nameless [] [] s d none-taken 2 J.second-read; exactly = fit-exactly [] s d J }

pub counts_plainly : (s d : List ℕ) → Judgeable [] s d → CountsPlainly s d
unfolding table_adds
counts_plainly s d J =
    let f = fits_plainly s d J in
    let first : reading_of Specimen 1 s ≡ Ok J.first = sym (empty-reading s) ∙ J.first_read in
    let second = J.second-read in
    let adds : table_adds s d ≡ groups_in s = rw (first, second) in
    let a = f.answer in
    record { counted = rw (a, adds); exactly = f.exactly }

pub normalises_plainly : (d out : List ℕ) (k : ℕ) → normalise_named [] [] d out ≡ Ok k → NormalisesPlainly d out k
normalises_plainly d out k e =
    normalised-ready [] [] d out e (λ L A.
    let g = normal-nameless [] [] d out none-taken 1 (own_read d A 1) in
    let f = sym g.0 ∙ e in
    record { answer = f; output = g.1; normalises = normalised-means [] d out f })

pub decided_plainly : (c d out : List ℕ) → Comparable c d out → DecidedPlainly c d out
decided_plainly c d out C =
    let g = comparison-nameless [] [] c d out none-taken 1 C.first_read 2 C.second-read in
    record { answer = g.0; output = g.1; decided = decided [] list-read c d out C }

-- ---- under a list of pairs and a dictionary, by the names that the contracts give

pub fit_refuses : (P D s d : List ℕ) → RefusedExactly (fit_named P D s d) (FitRefused P D s d)
fit_refuses P D s d k i p = fit-refused-exactly P D s d

pub normal_refuses : (P D d out : List ℕ) → RefusedExactly (normalise_named P D d out) (NormalRefused P D d out)
normal_refuses P D d out k i p = normal-refused-exactly P D d out

pub comparison_refuses : (P D c d out : List ℕ) → RefusedExactly (compare_named P D c d out) (ComparisonRefused P D c d out)
comparison_refuses P D c d out k i p = comparison-refused-exactly P D c d out

pub normal_stays : (P D d out : List ℕ) → NothingWritten (normalise_named P D d out) (normalised_named P D d out) out
normal_stays P D d out k i p = normal-unchanged P D d out

pub comparison_stays : (P D c d out : List ℕ) → NothingWritten (compare_named P D c d out) (output_named P D c d out) out
comparison_stays P D c d out k i p = comparison-unchanged P D c d out
