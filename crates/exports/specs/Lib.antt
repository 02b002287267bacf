-- The definition of this crate: what each export gives.
-- How a table, a description and an answer are octets stands in octet_table/specs, octet_description/specs and octet_answers/specs.
pub mod Calls
