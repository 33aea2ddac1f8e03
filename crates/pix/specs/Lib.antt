pub mod Cards
pub mod CardLimits
pub mod Texts
