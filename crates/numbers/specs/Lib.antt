-- The definitions of this crate: the sizes, all from the number of ports, and what the numbers of a table say.
-- The shares themselves are rules/specs/Shares.antt.
pub mod Sizes
pub mod Numbers
