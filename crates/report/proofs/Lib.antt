pub mod Lists
pub mod Writing
