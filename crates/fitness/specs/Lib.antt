-- The definitions of this crate, in the order in which they are read: when a table is fit, how a place is asked beside the others, the refusals that follow, and which list of places it is.
-- When a place is fit by itself stands in marks/specs.
pub mod Fit
pub mod Beside
pub mod Refusals
pub mod View
