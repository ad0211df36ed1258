pub mod AtSite
pub mod OnTrack
