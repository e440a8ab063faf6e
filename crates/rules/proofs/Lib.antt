pub mod Alike
pub mod Unique
pub mod Widening
pub mod Outcome
pub mod Scope
pub mod Together
