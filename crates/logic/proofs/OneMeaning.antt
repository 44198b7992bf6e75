-- What a normal form holds, and that one meaning has one normal form.

-- One meaning, one normal form: two normal places that the same items fit are equal.
pub mod Unique
-- A normal form holds exactly the atoms that it says, in the records that keep the background.
pub mod HoldsExactly
