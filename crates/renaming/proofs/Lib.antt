pub mod Laws
pub mod Taking
