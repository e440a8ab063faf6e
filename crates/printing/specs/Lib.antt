pub mod Parts
pub mod Measure
pub mod Page
pub mod Output
pub mod Layout
