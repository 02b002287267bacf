-- The definition of this crate: when the parts of a description lie inside the text.
-- What they say is not asked here.
pub mod Inside
