pub mod Refusals
pub mod Bytes
pub mod Layouts
pub mod Rows
