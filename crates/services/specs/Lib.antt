pub mod Services
pub mod OnMemory
pub mod Examples
