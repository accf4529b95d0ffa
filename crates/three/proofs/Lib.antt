pub mod Lightest
pub mod BySums
pub mod Anew
pub mod Filling
pub mod Ended
