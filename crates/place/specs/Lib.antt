-- The definition of this crate: a table's state, seen place by place.
-- Every call above is said by what it puts where.
pub mod State
