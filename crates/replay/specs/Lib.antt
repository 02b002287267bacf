-- The definitions of this crate: which calls a capture makes and what they lead to; then the place that a replay keeps between two pieces,
-- which places are sound, one octet more, and last the contracts.
pub mod Calls
pub mod Place
pub mod Sound
pub mod Feeding
pub mod Promises
