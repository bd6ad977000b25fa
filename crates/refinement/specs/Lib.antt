pub mod AsList
pub mod ListSamples
