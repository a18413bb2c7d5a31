pub mod Operators
pub mod Expressions
pub mod Questions
pub mod Meaning
pub mod Laws
pub mod Scopes
pub mod Tables
pub mod Words
