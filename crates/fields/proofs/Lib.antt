-- The laws of this crate's definitions.
-- `field_fits` of FieldLaws is what the reader needs.
pub mod FieldLaws
pub mod Sole
