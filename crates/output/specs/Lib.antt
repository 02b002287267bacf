-- The definition of this crate: a lent output, and octets put into it.
-- It is total: what does not fit is left out.
pub mod Output
