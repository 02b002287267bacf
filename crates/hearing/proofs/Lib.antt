-- The laws of a frame on a port: what each return tells, and its refusal number.
-- That the call is the model's stands in table/proofs/ModelLaws.antt, and that two outcomes coincide in table/proofs/Sole.antt.
pub mod ReplyLaws
