pub mod Lists
pub mod Action
pub mod Sets
pub mod Iterating
