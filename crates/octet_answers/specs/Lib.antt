-- The definition of this crate: the octets of each answer, and what is returned beside them.
-- What is answered stands in the crates below: reading, writer, rules, questions and compare.
pub mod Answers
