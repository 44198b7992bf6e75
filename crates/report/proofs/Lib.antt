-- What dividing the input means: it is divided at the first later whole block with number 1.
pub mod Dividing
-- Descriptions on standard input: two that are accepted, joined, divide into just these two, and one alone does not divide.
pub mod Joined
-- The lines to print, by the answer and by the input.
pub mod Printed
-- What the program writes, to its last byte: by the input, and by the answer.
pub mod PrintedText
-- The lines of the third case and of a property, to their last byte.
pub mod SecondExample
-- The lines of a specimen that is written at the start of the output are the lines of its entries.
pub mod WrittenLines
-- Numbers in decimal: their digits, one after the other, what these mean, and that they are what the library writes.
pub mod Decimals
-- Laws of the words of a line that has more than one field.
pub mod TextLaws
