-- The laws of forms: one turn of the loop that fills a form in, and its end.
-- Sole is the theorem that two lines of one contract coincide; Examples has some forms filled in.
pub mod FormLaws
pub mod Sole
pub mod Examples
