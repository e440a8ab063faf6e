pub mod Faults
pub mod Look
pub mod Rooms
pub mod Scopes
pub mod Choices
pub mod Parses
pub mod Reads
