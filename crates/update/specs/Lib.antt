pub mod Batches
pub mod Frees
pub mod Growths
pub mod Memory
