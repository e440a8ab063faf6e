pub mod Numbers
pub mod Rules
pub mod Derivation
pub mod Statement
pub mod Scope
pub mod Laws
