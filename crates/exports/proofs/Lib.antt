-- The laws that the exports' returns cite, and that two answers of one contract coincide.
-- Nothing is proved a second time: each law hands on what the calls below promise.
pub mod CappedLaws
pub mod GivesLaws
pub mod LooksLaws
pub mod Sole
pub mod SizesSole
