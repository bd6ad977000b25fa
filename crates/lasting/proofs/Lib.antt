pub mod Lasting
pub mod SameChain
pub mod Reading
pub mod Through
pub mod LastingUses
