-- The laws of this crate's definitions.
-- A crate above cites them by name.
pub mod HeaderLaws
pub mod NumbersLaws
pub mod AddressLaws
pub mod PartLaws
pub mod Sole
