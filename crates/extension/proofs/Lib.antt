-- The laws of extension link information: of things that stand one behind the other, of the table that is laid out, of what is
-- answered, and the revision rule. Sole is the theorem that two answers of one contract coincide.
pub mod RunLaws
pub mod LayoutLaws
pub mod AskedLaws
pub mod TableLaws
pub mod RevisionLaws
pub mod Sole
