-- The laws of this crate's definitions: what the loops cite, what a fit table has, and what keeps it fit.
-- From ViewLaws on they are what the calls rest on.
pub mod ReachLaws
pub mod TwinLaws
pub mod ChassisLaws
pub mod ViewLaws
pub mod FitLaws
pub mod KeepLaws
pub mod WrittenLaws
pub mod Sole
