pub mod Programs
pub mod AsList
