-- The definitions of this crate: the layout of extension link information, what it says, what is answered of it, and the revision rule.
-- Table is the one to believe: a field is well formed exactly if it is a table laid out.
pub mod Runs
pub mod Layout
pub mod Table
pub mod Asked
pub mod Revision
