-- The laws of what is gathered: the loop, what a mark means, what the parts of management addresses mean, and the verdict.
-- ContentsLaws are those of the rules' own words. Sole is the theorem that two answers of one contract coincide.
pub mod FoundLaws
pub mod MarkLaws
pub mod ManagementLaws
pub mod VerdictLaws
pub mod ContentsLaws
pub mod Sole
