pub mod PlainReversal
pub mod Annex5
pub mod Worked
pub mod Marked
pub mod CrossingFiles
