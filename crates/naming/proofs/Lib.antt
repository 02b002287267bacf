-- The laws of who sees an address: which TLVs can (SeesLaws), what the loop cites and what the answer says; the answer without extension link information (BasicLaws);
-- that padding plays no part (Stable); and that two answers of one contract coincide (Sole).
pub mod SeesLaws
pub mod NamingLaws
pub mod BasicLaws
pub mod Stable
pub mod Sole
