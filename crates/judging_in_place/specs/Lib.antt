pub mod Entries
pub mod Offered
pub mod Tracks
pub mod Notes
