-- A refusal is no other answer, and of one cause, input and place only.
pub mod AnswerLaws
-- What is accepted: the dictionary and the descriptions that are read are legal, and the plain description that each stands for.
pub mod Accepted
-- What a call goes on with.
pub mod Sent
-- The answers and the written bytes are those for the unfolded descriptions.
pub mod Unfolded
-- A description without names, with any dictionary.
pub mod Nameless
-- A dictionary and a description are refused by the first line that applies.
pub mod DictionaryOrder
-- 13 at its entry after 4, and 14 after all else.
pub mod EntryOrder
-- Each call refuses by the first row that applies, and answers where none does.
pub mod Order
-- 7 last, and the numbers of the other refusals.
pub mod Seven
-- Rows by the numbers that are returned.
pub mod ByNumber
-- The ways of each call: refused, or everything is accepted.
pub mod Ways
-- What is promised of the answers, with names.
pub mod PromiseKept
-- What unfolding writes, and by which row it refuses.
pub mod Unfolding
-- What the contracts of the exported calls say beside their equations.
pub mod Calls
-- [N20] one meaning, one set of bytes.
pub mod OneSetOfBytes
-- What the bytes of a catalogue say, and that each is the answer of the single comparison.
pub mod CatalogueKept
-- The call on a catalogue: by which row it refuses,
pub mod CatalogueOrder
-- what a filled output says,
pub mod CatalogueFilled
-- and that it answers as for the unfolded inputs.
pub mod CatalogueUnfolded
-- Ranking a list of services refuses exactly by the first row that applies, and each byte of its table is the single comparison's.
pub mod RankingKept
-- Asking which entries earn a yes refuses exactly by the first row that applies, and what is left is contained by the single comparison.
pub mod EarningAnswered
-- Asking which entries fail: refused exactly by the first row that applies, and what its bytes say beside the comparison.
pub mod FailingAnswered
-- Asking what a description lacks refuses exactly by the first row that applies, and with the addition it is contained by the single comparison.
pub mod MissingAnswered
-- Fitting all items of a delivered record refuses exactly by the first row that applies, and each byte says whether its item fits.
pub mod ItemsKept
-- The narrowest description that contains two: of accepted inputs, as entries and in blocks,
pub mod NarrowestWritten
-- as for the unfolded descriptions,
pub mod NarrowestUnfolded
-- refused exactly by the first row that applies,
pub mod NarrowestOrder
-- what its answer says,
pub mod NarrowestKept
-- and that of two field sheets it is one.
pub mod NarrowestSheets
-- Examples of the narrowest description compute.
pub mod NarrowestExamples
