pub mod Brought
pub mod Copies
pub mod NodeStocks
pub mod Reasons
pub mod SecondPreimages
pub mod Shelves
pub mod StockedShelves
pub mod internal
