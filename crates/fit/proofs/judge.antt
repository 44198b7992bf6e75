-- Laws of the code in src/judge.rt.

-- Laws of meeting an entry, one for each way through the code.
pub mod MeetLaws
