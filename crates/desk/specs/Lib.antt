pub mod Copies
pub mod Exchange
pub mod Going
pub mod Lines
pub mod Listings
pub mod Findings
