pub mod UnusedLast
pub mod OnTheLine
pub mod Ends
pub mod Ruling
pub mod InItsRanges
pub mod Running
