-- The laws of this crate's definitions.
-- RoundTrip, Again and Sole are the theorems; the others serve the proofs of the functions and these three.
pub mod WriteLaws
pub mod ReadBack
pub mod Topics
pub mod RoundTrip
pub mod Again
pub mod Bench
pub mod Sole
