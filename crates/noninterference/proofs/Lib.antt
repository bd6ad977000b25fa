pub mod Noninterference
pub mod Conclusions
pub mod AlikeServices
pub mod Hypotheses
pub mod Unseen
pub mod Samples
