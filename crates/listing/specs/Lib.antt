pub mod Listing
pub mod Panel
pub mod Printed
pub mod Sheet
