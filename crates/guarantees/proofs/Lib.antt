pub mod EntryPoints
pub mod Guaranteed
