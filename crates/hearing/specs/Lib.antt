-- The definition of this crate: what a frame on a port gives.
-- The room rule is that of rules/specs/Shares.antt.
pub mod Frame
