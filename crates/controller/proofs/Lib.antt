-- What a caller in C may believe, from the exports' contracts alone.
-- Each call is one of the sequences that history speaks of, so its theorems hold; what is read crosses without loss, and so do the changes between two looks.
pub mod Runs
pub mod ReadLaws
pub mod ChangesLaws
