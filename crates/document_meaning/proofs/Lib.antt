-- What a text means and what its plain text is: theorems over document 01's definitions, and its examples.
-- What a good value is, and what an object's fields make of it
pub mod Good
pub mod Makes
pub mod Parts
pub mod Families
-- Exactly what is meant is read, and one posology is meant
pub mod Sound
pub mod Complete
pub mod Accepts
pub mod OneMeaning
pub mod Reorder
pub mod Utf8Texts
-- Texts and runs
pub mod Texts
pub mod Moves
pub mod NextTexts
pub mod Spelled
-- Plain texts: what they mean, how they are spelled, how long they are
pub mod PlainMeans
pub mod PlainHead
pub mod PlainDepth
pub mod Numerals
pub mod QuotedChars
pub mod PlainSpells
pub mod PlainSpellable
pub mod PlainThen
pub mod Lengths
pub mod PlainTexts
-- Tables and answers
pub mod ReadTables
pub mod TableLengths
pub mod Numbered
-- Examples
pub mod Examples
pub mod Wish3
