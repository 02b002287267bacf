-- The laws of this crate's definitions: whose a place is, places put back, places written, and places that there are not.
-- They hold for any state, fit or not; Sole says that each contract allows one answer.
pub mod WhoseLaws
pub mod PlaceLaws
pub mod PutLaws
pub mod ThereLaws
pub mod FoundLaws
pub mod Sole
