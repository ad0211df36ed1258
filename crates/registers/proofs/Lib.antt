pub mod Records
pub mod Lists
pub mod Walks
pub mod Offset
pub mod Answer
pub mod Promises
pub mod Examples
pub mod SignedOffsets
