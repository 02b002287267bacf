-- The definitions of this crate, in the order in which they are read: what a history says, the same in the demand's words, the demand, a broken agent.
-- Calls says which sequences of calls there are.
pub mod Past
pub mod Words
pub mod Demand
pub mod Broken
pub mod Calls
