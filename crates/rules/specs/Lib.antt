-- The definitions of this crate, in the order in which they are read: who is meant, what is heard, who gets room, what is answered.
-- Model says the calls over a list of places, Fit which lists are fit, Records what two of them have in common, and EitherOrder when the order of two frames matters; no octet of a buffer and no number of the struct stands in them.
pub mod Identity
pub mod Events
pub mod Shares
pub mod Answers
pub mod Model
pub mod Fit
pub mod Records
pub mod EitherOrder
