-- The definition of this crate: when a description keeps the rules.
-- What a description says is the reader's definition (reading/specs/Meaning.antt).
pub mod Rules
