pub mod Keeping
pub mod Samples
