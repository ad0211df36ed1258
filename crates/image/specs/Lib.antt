pub mod Image
pub mod RoundTrip
