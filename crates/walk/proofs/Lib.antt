-- The laws of the walk: a loop cites walk-refused, walk-end and walk-next.
-- Sole is the theorem that two answers of one contract coincide.
pub mod WalkLaws
pub mod Sole
