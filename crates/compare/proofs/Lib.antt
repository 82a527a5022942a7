pub mod Chains
pub mod Rows
pub mod Growth
pub mod Ranks
pub mod Sweeping
pub mod Whole
