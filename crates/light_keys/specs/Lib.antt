pub mod LightManifests
pub mod internal
