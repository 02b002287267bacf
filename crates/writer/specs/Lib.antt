-- The definition of this crate: what the writer answers, and what it leaves in the output.
-- What is written is said in announcement/specs, and the rules of a description in description/specs.
pub mod Write
