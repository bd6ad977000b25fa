pub mod Ends
pub mod Linking
