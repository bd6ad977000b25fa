pub mod Bounds
pub mod Looking
pub mod Replies
