pub mod Outcomes
pub mod Parts
pub mod Calls
pub mod RunExamples
pub mod CallsInPlainWords
