pub mod Modules
pub mod Sets
pub mod Walking
pub mod Answering
