-- The number that a call hands to C for each answer.
-- Assumes nothing.
use Rattle.std.specs.Prelude.{◌*◌, ◌+◌, ℕ, true, false, Some, None, Ok, Err}
use Rattle.blocks.specs.Reading.{Reading}
use Rattle.blocks.specs.Refusals.{number_of}
use Rattle.blocks.specs.declared.Refusal.{Refusal}
use Rattle.compare.specs.Answer.{Comparison}
use Rattle.fit.specs.Answer.{FitAnswer}
use Rattle.fit.specs.declared.Counted.{Counted}
use Rattle.missing.specs.Answer.{Lacking}
use Rattle.missing.specs.declared.Lack.TheVariants.{Addable, Against, Nothing}

-- [K5] the four fields of an answer
abbrev pub packed : ℕ → ℕ → ℕ → ℕ → ℕ
packed answer number first second = answer + 256 * number + 65536 * first + 4294967296 * second

-- [K5] a refusal: 0, its number, input and place
abbrev pub pack_refusal : Refusal → ℕ
pack_refusal e = packed 0 (number_of e.cause) e.input e.place

-- [K5] a count: 1, and the count in the second field
abbrev pub counted : ℕ → ℕ
counted count = packed 1 0 0 count

-- reading: the entries read; unfolding and normalising: the entries written; a catalogue: the bytes filled
abbrev pub pack_reading : Reading → ℕ
pack_reading (Ok count) = counted count
pack_reading (Err e) = pack_refusal e

-- fitting: [K5] 1 for yes and contained, 2 for no
abbrev pub pack_fit : FitAnswer → ℕ
pack_fit (Ok true) = packed 1 0 0 0
pack_fit (Ok false) = packed 2 0 0 0
pack_fit (Err e) = pack_refusal e

-- fitting with counts: [K5] additions in the walk, then in the table
abbrev pub pack_adds : FitAnswer → ℕ → ℕ → ℕ
pack_adds (Ok true) walk table = packed 1 0 walk table
pack_adds (Ok false) walk table = packed 2 0 walk table
pack_adds (Err e) walk table = pack_refusal e

abbrev pub pack_counted : Counted → ℕ
pack_counted c = pack_adds c.answer c.walk c.table

-- what is lacking: [K5] 1 for nothing, 2 for what is to be added, 3 where no item fits both
abbrev pub pack_lack : Lacking → ℕ
pack_lack (Ok Nothing) = packed 1 0 0 0
pack_lack (Ok Addable) = packed 2 0 0 0
pack_lack (Ok Against) = packed 3 0 0 0
pack_lack (Err e) = pack_refusal e

-- comparing: [K5] not contained: 2, the entry that fails, the specimen's total
abbrev pub pack_comparison : Comparison → ℕ
pack_comparison (Ok None) = packed 1 0 0 0
pack_comparison (Ok (Some n)) = packed 2 0 n.entry n.entries
pack_comparison (Err e) = pack_refusal e
