pub mod Lines
pub mod Refusal
pub mod Told
pub mod Outline
pub mod Reprint
pub mod Run
