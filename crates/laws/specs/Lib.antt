pub mod Meaning
pub mod Faithful
pub mod Agreement
pub mod Clamped
