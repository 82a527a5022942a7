pub mod Text
pub mod Adding
