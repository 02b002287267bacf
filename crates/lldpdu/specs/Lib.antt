-- The definitions of this crate, in the order in which they are read: the whole LLDPDU, its refusals as rows, its first three TLVs, its outline.
-- Nothing here looks at what a field behind the first three TLVs says.
pub mod Extent
pub mod Rows
pub mod Leading
pub mod Outline
