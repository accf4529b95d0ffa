pub mod Solution
pub mod Answer
pub mod Polynomials
pub mod Candidates
pub mod Listing
