pub mod Calls
pub mod Meanings
pub mod Views
