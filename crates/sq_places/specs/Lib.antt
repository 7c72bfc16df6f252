pub mod AllPlaces
pub mod inside
