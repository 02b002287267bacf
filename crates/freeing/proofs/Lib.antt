-- The laws of the calls that take records away: what a change makes of a place, and what each call gives.
-- That two outcomes of one contract coincide stands in table/proofs/Sole.antt.
pub mod ChangeLaws
pub mod FreedLaws
pub mod CallLaws
