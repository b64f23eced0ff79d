pub mod JsonValues
pub mod XmlDocuments
pub mod XmlTrees
