pub mod AsPacked
pub mod PackedUses
