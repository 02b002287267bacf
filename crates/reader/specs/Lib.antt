-- The definition of this crate: when a frame is one, and the answer on it.
-- What an LLDPDU says stands in reading/specs.
pub mod Frame
