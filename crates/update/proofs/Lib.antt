pub mod Batches
pub mod Frees
pub mod Growing
pub mod RowBytes
