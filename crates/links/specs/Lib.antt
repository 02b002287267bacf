-- The definitions of this crate: link information and the address list, by their counts and their length, and addresses in a row.
-- What a TLV says with them stands in fields/specs/Field.antt.
pub mod Link
pub mod Row
