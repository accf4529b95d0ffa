pub mod Pairs
pub mod Outcomes
