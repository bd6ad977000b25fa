pub mod AsPacked
