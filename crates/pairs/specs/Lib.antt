pub mod Held
pub mod Suspects
pub mod Difference
pub mod Solving
pub mod Seeking
pub mod Searching
pub mod Doubts
