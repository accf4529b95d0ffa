pub mod Header
pub mod Replies
pub mod Written
pub mod ReadBack
