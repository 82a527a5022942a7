pub mod Summaries
pub mod Trying
