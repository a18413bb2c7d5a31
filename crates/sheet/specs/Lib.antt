pub mod Encoding
pub mod Ranges
pub mod Images
pub mod Words
