pub mod Fuel
pub mod Walks
pub mod Inversion
pub mod Accepted
pub mod Refused
pub mod Derived
pub mod Rules
pub mod Worked
