pub mod ToldVerdicts
pub mod ToldDocuments
