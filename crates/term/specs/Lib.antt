pub mod Forms
pub mod Term
pub mod Laws
pub mod Cells
pub mod State
pub mod Walk
pub mod Layout
