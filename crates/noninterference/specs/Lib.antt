pub mod Noninterference
pub mod Unseen
pub mod Samples
