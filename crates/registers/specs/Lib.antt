pub mod Books
pub mod Answers
pub mod Words
pub mod Walk
pub mod Promises
pub mod Examples
