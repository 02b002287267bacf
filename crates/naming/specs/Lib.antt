-- The definition of this crate: who sees an address.
-- What link information says stands in found/specs/Contents.antt.
pub mod Naming
