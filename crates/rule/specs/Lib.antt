pub mod Tree
pub mod Summaries
pub mod Checked
pub mod Laws
