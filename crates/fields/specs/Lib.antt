-- The definitions of this crate: device information, and what a TLV says.
-- Each looks at one information string and at nothing behind it.
pub mod Device
pub mod Field
