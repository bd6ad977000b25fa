pub mod Pointing
pub mod Stacking
