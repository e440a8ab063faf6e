pub mod Texts
pub mod Trees
pub mod Prints
