pub mod DayFiles
