pub mod Ending
pub mod Signing
pub mod Single
pub mod Serving
pub mod Findings
pub mod Solving
pub mod Judging
