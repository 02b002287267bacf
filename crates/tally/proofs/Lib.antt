-- The laws of this crate's definitions.
-- They are over any test, any range and any contract.
pub mod TestsLaws
pub mod RangesLaws
pub mod CountsLaws
pub mod TabLaws
pub mod Sole
