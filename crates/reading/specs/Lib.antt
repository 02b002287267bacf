-- The definitions of this crate: what an LLDPDU says, by the rules alone and by places, as the code answers it.
-- Meaning is the one to believe.
pub mod Reading
pub mod Meaning
