pub mod Bytes
pub mod Faults
pub mod Meaning
pub mod Calls
pub mod PlainMeaning
pub mod BenchMeaning
pub mod Limits
pub mod Blocks
