pub mod Preview
pub mod PreviewInPlainWords
