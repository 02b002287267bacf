-- The definitions of this crate: choosing by a test, asking a test of every number in a range, counting, the first of several rows, a list given place by place.
-- Every rule above is written in these words.
pub mod Tests
pub mod Ranges
pub mod Counts
pub mod Due
pub mod Tab
