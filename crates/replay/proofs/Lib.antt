-- The laws of this crate: a place and where it goes, one octet and many, a file in any pieces, and what the contracts leave open: nothing.
-- FileLaws has the theorem, that a replay octet by octet gives what the whole file says.
pub mod ContractLaws
pub mod FeedingLaws
pub mod TableLaws
pub mod DueLaws
pub mod FileLaws
pub mod SoundLaws
pub mod EndLaws
pub mod Examples
pub mod Sole
