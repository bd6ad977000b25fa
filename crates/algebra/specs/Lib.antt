pub mod Algebra
pub mod Samples
