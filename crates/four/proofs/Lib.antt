pub mod Leads
pub mod Tops
pub mod Shaped
pub mod RowsWritten
pub mod Agreeing
pub mod AllAdding
pub mod Ended
