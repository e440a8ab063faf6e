pub mod Trees
pub mod States
pub mod Lifting
pub mod Putting
pub mod Layouts
pub mod Stores
