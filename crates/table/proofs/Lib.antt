-- The theorems over all calls: each one on a fit table is a step of the model and leaves a fit table, and a refusal changes nothing.
-- They rest on the laws of the crates that have the calls.
pub mod PassingLaws
pub mod ModelLaws
pub mod StepLaws
pub mod RefusalLaws
pub mod Sole
