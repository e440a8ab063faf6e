pub mod Scopes
pub mod Logic
pub mod Ends
pub mod Statements
