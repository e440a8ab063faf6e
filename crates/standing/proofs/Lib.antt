pub mod Read
pub mod Named
