-- The laws of this crate: a replay's calls are calls of a history, and what the contracts of `begin`, `feed` and `finish` lead to.
-- Runs has what is said of the code.
pub mod EventsLaws
pub mod Runs
pub mod Witness
pub mod LimitLaws
pub mod UnreadLaws
