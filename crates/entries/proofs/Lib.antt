pub mod Numbers
pub mod Holding
pub mod Masks
pub mod Cut
pub mod Marked
