pub mod Shapes
pub mod Sweeps
