pub mod Preview
