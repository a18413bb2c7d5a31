pub mod Answers
pub mod Effects
pub mod Growing
pub mod Items
pub mod Laws
pub mod Meaning
pub mod Operators
pub mod Values
