pub mod Numbers
pub mod Grammar
pub mod Rows
pub mod Reading
pub mod Limits
pub mod Laws
pub mod Examples
