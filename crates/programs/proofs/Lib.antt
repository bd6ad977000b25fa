pub mod Laws
pub mod Stacks
pub mod OnHeaps
pub mod AsList
