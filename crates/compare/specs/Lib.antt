pub mod Rows
pub mod Indexed
pub mod Sides
pub mod Growth
pub mod Ranks
