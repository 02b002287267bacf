-- The definitions of this crate: what the system fields say, and when they are right.
-- What is read stands first; the same by places, as the code answers it, behind it.
pub mod System
