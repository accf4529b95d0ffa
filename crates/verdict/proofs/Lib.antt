pub mod FromFour
pub mod FromThree
