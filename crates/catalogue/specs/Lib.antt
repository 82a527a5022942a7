pub mod Catalogue
pub mod Systems
pub mod Layers
pub mod Walking
