pub mod Logic
pub mod Statements
