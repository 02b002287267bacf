-- The definition of this crate: what the two questions give.
-- Who sees an address in one LLDPDU stands in naming/specs.
pub mod Sight
