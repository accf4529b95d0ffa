pub mod Judged
pub mod Written
pub mod Served
pub mod Signed
