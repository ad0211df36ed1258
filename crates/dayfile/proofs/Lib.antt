pub mod Crossings
pub mod Parts
pub mod Reader
pub mod Writer
pub mod RoundTrip
pub mod FilesInPlainWords
