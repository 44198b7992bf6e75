-- The answers of the calls that take a dictionary, and the outputs that they leave: [D8] all answers and written
-- bytes are those for the unfolded descriptions.
-- Assumes nothing.
use Rattle.std.specs.Prelude.{ℕ, List, [], Err}
use Rattle.blocks.specs.Refusals.{unless_refused}
use Rattle.clashes.specs.Clash.{specimen_reading}
use Rattle.compare.specs.Answer.{Comparison, compare_of, output_of}
use Rattle.fit.specs.Answer.{FitAnswer, fit_of}
use Rattle.fit.specs.Counted.{table_adds, with_table}
use Rattle.fit.specs.declared.Counted.{Counted}
use Rattle.names.specs.NamedReading.{dictionary_of, dictionary_reading, named_unfolding, sent_of, unfolding_of}
use Rattle.narrowest.specs.Answer.{narrowed_of, narrowest_of}
use Rattle.normal.specs.Answer.{normalise_of, normalised_of}
use Rattle.blocks.specs.Reading.{Reading}
use Rattle.pairs.specs.Pairs.{pairs_reading}

-- ---- the normal form

-- [R25] 11, the dictionary, input 1, and then as for what it stands for
unfoldable pub normalise_named : List ℕ → List ℕ → List ℕ → List ℕ → Reading
normalise_named P D d out =
    unless_refused Err (pairs_reading P) (unless_refused Err (unfolding_of D 1 d) (normalise_of P (sent_of D d) out))

unfoldable pub normalised_named : List ℕ → List ℕ → List ℕ → List ℕ → List ℕ
normalised_named P D d out =
    unless_refused (λ e. out) (pairs_reading P) (unless_refused (λ e. out) (unfolding_of D 1 d) (normalised_of P (sent_of D d) out))

-- ---- the comparison

-- [R25] 11, the dictionary, input 1, input 2
unfoldable pub compare_named : List ℕ → List ℕ → List ℕ → List ℕ → List ℕ → Comparison
compare_named P D c d out =
    unless_refused Err (pairs_reading P)
    (unless_refused Err (unfolding_of D 1 c)
    (unless_refused Err (unfolding_of D 2 d) (compare_of P (sent_of D c) (sent_of D d) out)))

unfoldable pub output_named : List ℕ → List ℕ → List ℕ → List ℕ → List ℕ → List ℕ
output_named P D c d out =
    unless_refused (λ e. out) (pairs_reading P)
    (unless_refused (λ e. out) (unfolding_of D 1 c)
    (unless_refused (λ e. out) (unfolding_of D 2 d) (output_of P (sent_of D c) (sent_of D d) out)))

-- ---- the narrowest description that contains two

-- [R25] 11, the dictionary, input 1, input 2
unfoldable pub narrowest_named : List ℕ → List ℕ → List ℕ → List ℕ → List ℕ → Reading
narrowest_named P D a b out =
    unless_refused Err (pairs_reading P)
    (unless_refused Err (unfolding_of D 1 a)
    (unless_refused Err (unfolding_of D 2 b) (narrowest_of P (sent_of D a) (sent_of D b) out)))

unfoldable pub narrowed_named : List ℕ → List ℕ → List ℕ → List ℕ → List ℕ → List ℕ
narrowed_named P D a b out =
    unless_refused (λ e. out) (pairs_reading P)
    (unless_refused (λ e. out) (unfolding_of D 1 a)
    (unless_refused (λ e. out) (unfolding_of D 2 b) (narrowed_of P (sent_of D a) (sent_of D b) out)))

-- ---- the fit answer

-- [R25] 11, the dictionary, input 1, a specimen, then input 2
unfoldable pub fit_named : List ℕ → List ℕ → List ℕ → List ℕ → FitAnswer
fit_named P D s d =
    unless_refused Err (pairs_reading P)
    (unless_refused Err (dictionary_reading D)
    (unless_refused Err (specimen_reading P s)
    (unless_refused Err (named_unfolding (dictionary_of D) 2 d) (fit_of P s (sent_of D d)))))

-- with no pairs and no dictionary, and the additions that it took
abbrev pub counted_named : List ℕ → List ℕ → Counted
counted_named s d = with_table (fit_named [] [] s d) (table_adds s d)
