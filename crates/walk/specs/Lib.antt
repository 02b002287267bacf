-- The definition of this crate: one TLV, and the walk from one to the next.
-- Nothing here looks at what a TLV says.
pub mod Walk
