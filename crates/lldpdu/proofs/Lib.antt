-- The laws of this crate's definitions.
-- The extent first, then the first three TLVs, then what holds of every answer.
pub mod ExtentLaws
pub mod LeadingLaws
pub mod Stable
pub mod Few
pub mod RowsLaws
pub mod Sole
