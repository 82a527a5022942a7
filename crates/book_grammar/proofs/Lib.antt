pub mod Examples
pub mod Free
pub mod Parsed
pub mod Viable
pub mod Bounds
pub mod Exact
pub mod Overfull
pub mod Openable
