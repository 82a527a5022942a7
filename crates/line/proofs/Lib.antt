pub mod Codes
pub mod Held
pub mod Planning
pub mod Swaps
pub mod Timing
