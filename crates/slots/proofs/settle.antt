-- Laws of the code in src/settle.rt.

-- Laws of the second pass: one slot settled.
pub mod SettleLaws
