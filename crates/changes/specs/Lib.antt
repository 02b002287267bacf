-- The definitions of this crate, in the order in which they are read: which entries two tables give, what an entry says, and what the list accounts for.
-- No octet of a buffer and no number of the struct stands in them.
pub mod Entries
pub mod Changes
pub mod Account
