pub mod Words
pub mod Requests
pub mod Kinds
pub mod Reading
