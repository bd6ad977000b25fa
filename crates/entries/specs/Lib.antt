pub mod Numbers
pub mod Groups
pub mod Marking
pub mod Lent
