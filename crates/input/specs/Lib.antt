-- The definitions of this crate: a room for a stored file, and the number that octets of one are.
-- What a read gives no contract can say.
pub mod Stored
