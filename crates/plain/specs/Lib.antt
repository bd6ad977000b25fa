pub mod Objects
pub mod Tracing
pub mod Reaching
pub mod Images
pub mod Replies
pub mod Examples
