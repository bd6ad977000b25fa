pub mod Held
pub mod Starts
