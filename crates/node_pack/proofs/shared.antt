-- Lemmas for the crates above.
pub mod FurtherPlaces
pub mod PackPlaces
pub mod RecordPlaces
