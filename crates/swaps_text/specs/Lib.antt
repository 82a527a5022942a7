pub mod Text
pub mod Trying
