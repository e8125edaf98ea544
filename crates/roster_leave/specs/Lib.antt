pub mod Departing
pub mod Left
pub mod LeftParts
pub mod Others
