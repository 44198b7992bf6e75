-- A list of descriptions judged by one, the supplier's: which of them contain it, and the refusals in their order.
-- Assumes nothing.
use Rattle.std.specs.Prelude.{◌%◌, suc, ℕ, eqb, ltb, length, ◌||◌, cond, not, List, [], ◌∷◌, Ok, Err}
use Rattle.base.specs.Range.{bit}
use Rattle.base.specs.Stores.{stored}
use Rattle.blocks.specs.Refusals.{unless_refused, refused}
use Rattle.blocks.specs.declared.Entry.{Entry}
use Rattle.blocks.specs.Reading.{Reading}
use Rattle.lists.specs.Parts.{parts_of}
use Rattle.names.specs.NamedReading.{dictionary_of, named_unfolding, sent_of, unfolding_of}
use Rattle.pairs.specs.Pairs.{pairs_reading, under}
use Rattle.slots.specs.Holding.{failing_in}
use Rattle.blocks.specs.declared.Cause.TheVariants.{Count, Length}

-- ---- the refusals

-- [L6] 1 for a list of length 0 or no multiple of 512, 8 for more than 64 services, both at input 2, place 0. [L1]
-- each block numbered 1 begins a service: the list is cut before any block is checked, and descriptions laid end to
-- end are cut into just those [L2].
unfoldable pub cut_reading : List ℕ → Reading
cut_reading list =
    cond (eqb (length list) 0 || not (eqb (length list % 512) 0)) (refused Length 2 0)
    (cond (ltb 64 (length (parts_of list))) (refused Count 2 0) (Ok (length (parts_of list))))

-- [L5] the n-th service is input 1 + n: those from input i on, each in full before the next
unfoldable pub services_reading : List (List Entry) → ℕ → List (List ℕ) → Reading
services_reading K i [] = Ok 0
services_reading K i (d ∷ ds) = unless_refused Err (named_unfolding K i d) (services_reading K (suc i) ds)

-- the list and its services, where all before it is accepted: a refusal, or how many services there are
unfoldable pub listed_reading : List ℕ → List ℕ → Reading
listed_reading D list = unless_refused Err (cut_reading list) (unless_refused Err (services_reading (dictionary_of D) 2 (parts_of list)) (Ok (length (parts_of list))))

-- 11, the dictionary, [L6] the supplier's checks, the list and its services
unfoldable pub list_reading : List ℕ → List ℕ → List ℕ → List ℕ → Reading
list_reading P D c list = unless_refused Err (pairs_reading P) (unless_refused Err (unfolding_of D 1 c) (listed_reading D list))

-- ---- the bytes

-- [L3] 1 for contained, 0 for not: the byte of a service, by the bytes that a call goes on with for the supplier
unfoldable pub service_bit : List ℕ → List ℕ → List ℕ → List ℕ → ℕ
service_bit P D s d = bit (eqb (failing_in (under P) s (sent_of D d)) 0)

-- the bytes of the services from input i on, up to the first that is refused
unfoldable pub bits_before : List ℕ → List ℕ → List ℕ → ℕ → List (List ℕ) → List ℕ
bits_before P D s i [] = []
bits_before P D s i (d ∷ ds) = unless_refused (λ e. []) (named_unfolding (dictionary_of D) i d) (service_bit P D s d ∷ bits_before P D s (suc i) ds)

unfoldable pub listed_bits : List ℕ → List ℕ → List ℕ → List ℕ → List ℕ
listed_bits P D s list = unless_refused (λ e. []) (cut_reading list) (bits_before P D s 2 (parts_of list))

unfoldable pub list_bits : List ℕ → List ℕ → List ℕ → List ℕ → List ℕ
list_bits P D c list =
    unless_refused (λ e. []) (pairs_reading P) (unless_refused (λ e. []) (unfolding_of D 1 c) (listed_bits P D (sent_of D c) list))

-- a table that takes them, after it: they stand at its front, and later bytes stay
unfoldable pub answers_after : List ℕ → List ℕ → List ℕ → List ℕ → List ℕ → List ℕ
answers_after P D c list old = stored old 0 (list_bits P D c list)
