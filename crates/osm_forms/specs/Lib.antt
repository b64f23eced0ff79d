pub mod internal
pub mod Words
pub mod JsonText
pub mod XmlText
pub mod Forms
pub mod Documents
