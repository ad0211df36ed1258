pub mod Day
