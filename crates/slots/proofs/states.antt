-- Laws of the code in src/states.rt.

-- What a search of the table of settled slots finds: the slot of a key, and its bounds.
pub mod SlotSearch
-- The bounds of a slot that was looked up, and of none.
pub mod BoundLaws
-- The table of states that the search for the first failing entry keeps: right for the top and for each 'every' that was passed.
pub mod SlotStates
