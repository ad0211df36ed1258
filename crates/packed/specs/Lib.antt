pub mod Settings
pub mod Packed
