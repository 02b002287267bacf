-- The theorems of this crate, in the order in which they are read: a history computed and in words, the model, the demand, the calls, the code.
-- All up to the demand are over any number of ports.
pub mod PastLaws
pub mod WordsLaws
pub mod CountsLaws
pub mod AgreeLaws
pub mod DemandLaws
pub mod BrokenLaws
pub mod CallsLaws
pub mod SeesLaws
pub mod Runs
pub mod TwoTables
pub mod BothOrders
pub mod EitherOrder
pub mod Witness
pub mod Examples
