pub mod Log
pub mod Heads
pub mod Examples
