-- The definition of this crate: a form, and what its marks stand for.
-- How a number, octets and a chassis are printed is said in line/specs.
pub mod Form
