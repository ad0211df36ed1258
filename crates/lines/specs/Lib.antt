pub mod Lines
pub mod Noted
pub mod PanelLine
pub mod PrintedTable
