-- The descriptions of a dictionary in turn.

-- What is made of the descriptions of a dictionary in turn.
pub mod InTurn
-- What is made of the descriptions of a dictionary in turn is made of each by all the values: it names only earlier ones.
pub mod ByAllValues
-- The contents of a description are the description as it stands, unfolded by all contents.
pub mod ContentsUnfold
