-- The lines that the program prints.
pub mod Lines
-- What the promises of the program speak of: the first later block with number 1, a number in decimal, and what the program writes.
pub mod Promise
-- The bytes that the program prints: of a number, of a word, of a line, and of all lines.
pub mod Text
