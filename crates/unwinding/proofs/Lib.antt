pub mod Same
pub mod Collections
pub mod Heaps
pub mod Memories
