pub mod AtPost
pub mod OnTrack
