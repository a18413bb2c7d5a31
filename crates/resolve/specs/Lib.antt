pub mod Answers
pub mod Pair
pub mod Table
