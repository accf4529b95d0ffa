pub mod EachOne
pub mod OneSum
pub mod Over
pub mod FourCards
pub mod Replied
pub mod AskedAgain
pub mod ChecksClosed
