pub mod Settings
pub mod Texts
