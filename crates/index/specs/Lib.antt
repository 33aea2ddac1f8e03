pub mod Leaves
pub mod Rangings
pub mod Readings
