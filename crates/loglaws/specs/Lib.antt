pub mod Chains
pub mod Pairs
pub mod Lasting
pub mod Promises
pub mod Cycle
