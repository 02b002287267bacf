-- The laws of what is printed: digits and octets as the loops put them.
-- Sole is the theorem that two lines of one contract coincide; Examples has some texts as they are printed.
pub mod HexLaws
pub mod DecimalLaws
pub mod Examples
pub mod Sole
