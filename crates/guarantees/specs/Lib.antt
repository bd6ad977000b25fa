pub mod EntryPoints
pub mod Guarantees
