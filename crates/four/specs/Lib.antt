pub mod Adding
pub mod Groups
pub mod Filling
pub mod Relied
pub mod Weighed
pub mod Outcomes
pub mod Leads
