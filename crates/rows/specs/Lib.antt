pub mod Places
pub mod Faults
pub mod Opening
pub mod Walks
pub mod Calculus
pub mod Rules
pub mod Cases
pub mod Texts
