pub mod Sections
pub mod Ends
