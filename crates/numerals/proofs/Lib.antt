pub mod DecimalSteps
pub mod HexSteps
