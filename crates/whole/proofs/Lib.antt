pub mod Lanes
pub mod Planes
pub mod Sums
pub mod Ones
pub mod Steps
pub mod Testing
