-- The definitions of this crate: what the TLVs say together, and how the code gathers it.
-- Contents is the one to believe; Found says the same by places.
pub mod Contents
pub mod Found
