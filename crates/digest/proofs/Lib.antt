-- The laws of the fold, as the loops go, and that two digests of one contract coincide.
-- Nothing is claimed of how well a digest tells tables apart.
pub mod FoldLaws
pub mod Sole
