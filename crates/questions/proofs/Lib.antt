-- The laws of the two questions: that who sees names the lowest place, and the contract of each return.
-- That two answers of one contract coincide stands in table/proofs/Sole.antt.
pub mod LowestLaws
pub mod QuestionLaws
