-- The laws of this crate's definitions.
-- What the code cites comes first, then the theorems that others cite.
pub mod FrameLaws
pub mod Agree
pub mod Refusals
pub mod Bench
pub mod Sole
