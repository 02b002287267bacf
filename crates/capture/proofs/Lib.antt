-- The laws of this crate: what a part of a file says of its headers, and the records of a file front to back.
-- Last, that each contract leaves one answer; and captures that are computed.
pub mod LayoutLaws
pub mod RecordsLaws
pub mod Sole
