pub mod Asking
pub mod Bounds
pub mod Replies
