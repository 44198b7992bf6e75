-- Laws of the code in src/failing.rt.

-- Laws of judging: what is answered on each way, and what stands in the table.
pub mod JudgingLaws
