pub mod OnTrack
