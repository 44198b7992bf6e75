-- Mirrors of the code.

-- Why a stored entry is refused, by the depth that the next may have at most; and the rows of a place in walking order.
pub mod Steps
