-- The definition of this crate: the ID of a chassis or of a port.
-- Where it stands in an LLDPDU is said in lldpdu/specs.
pub mod Id
