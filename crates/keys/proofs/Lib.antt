pub mod RowSteps
pub mod MomentSteps
pub mod Comparing
pub mod DashSteps
pub mod Shown
