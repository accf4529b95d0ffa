pub mod Lent
pub mod Answers
pub mod Typed
