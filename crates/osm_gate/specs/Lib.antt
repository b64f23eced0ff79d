pub mod Connections
pub mod Mirrors
pub mod Pieces
pub mod Responses
pub mod Routes
pub mod Serving
pub mod Terms
pub mod internal
