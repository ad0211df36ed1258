pub mod Index
pub mod OnTrack
