pub mod Appended
pub mod Digits
pub mod Endings
pub mod Held
pub mod Lines
pub mod Room
pub mod Texts
pub mod Votes
