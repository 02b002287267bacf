-- The definitions of this crate: when a place is fit by itself, and its mark.
-- PlaceFit is the one to believe; marks serve the fitness test's speed alone.
pub mod PlaceFit
pub mod Marks
