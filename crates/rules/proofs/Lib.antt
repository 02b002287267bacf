-- The laws of this crate's definitions: identity is equality, the shares leave a free place, and every event keeps a fit table fit.
-- PlacesLaws and TabLaws have places by number, for a table of numbers, senders and octets. RecordsLaws and TwoTablesLaws are of two tables with the same records, and then it is two frames in either order.
pub mod IdentityLaws
pub mod EachLaws
pub mod SharesLaws
pub mod FrameLaws
pub mod PlacesLaws
pub mod TabLaws
pub mod RecordsLaws
pub mod TwoTablesLaws
pub mod CommonLaws
pub mod EitherOrderLaws
