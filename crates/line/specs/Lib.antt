-- The definitions of this crate: how octets, a chassis and numbers are printed (J2).
-- What it is to put them into a line stands in output/specs.
pub mod Hex
pub mod Decimal
