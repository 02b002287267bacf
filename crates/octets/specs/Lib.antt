-- The definitions of this crate: a TLV header, numbers of several octets, addresses.
-- All of them are total: what lies past the end of a list is 0.
pub mod Header
pub mod Numbers
pub mod Address
