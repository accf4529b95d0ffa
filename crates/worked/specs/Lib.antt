pub mod Examples
pub mod Checks
pub mod Limits
pub mod Worked
