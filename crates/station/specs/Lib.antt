pub mod Questions
pub mod Kinds
pub mod Codes
pub mod Serving
