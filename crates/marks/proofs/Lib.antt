-- The laws of a place by itself and of the pass over all places.
-- Each return of the code is one line of CheckLaws. Sole says that two answers coincide.
pub mod CheckLaws
pub mod MarkLaws
pub mod Sole
