-- The laws of this crate: a place that is asked for a chassis, by its own numbers.
-- What is counted is count_records of place/specs/State.antt, over chassis_is of rules/specs/Shares.antt.
pub mod ByLaws
pub mod Sole
