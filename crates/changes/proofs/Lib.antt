-- The laws of the entries and of what they say: place by place, change by change, and what the whole list accounts for.
-- They hold for any two lists of places in which no identity occurs twice.
pub mod OrderLaws
pub mod EffectLaws
pub mod BetweenLaws
pub mod AccountLaws
pub mod Examples
