pub mod BadPages
pub mod Capped
pub mod Halves
pub mod PlacesApart
pub mod RowPutting
