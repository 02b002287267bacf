-- The laws of reading a file in pieces: nothing read, one read more, and the end; and that answers in numbers say all that they said.
-- That a file may be cut anywhere is a law of replay. Sole says that two looks have one answer.
pub mod NumbersLaws
pub mod ReadingLaws
pub mod Sole
