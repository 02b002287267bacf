-- The laws of what an LLDPDU says: the meaning of a reading, then the theorems that others cite.
-- Sole is the theorem that two answers of one contract coincide.
pub mod MeaningLaws
pub mod Stable
pub mod Agree
pub mod Sole
