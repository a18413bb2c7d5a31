pub mod Acts
pub mod Walk
pub mod Says
pub mod Statements
pub mod Session
pub mod Promise
