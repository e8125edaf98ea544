pub mod ArrayInstance
pub mod Filled
pub mod Firsts
pub mod Kept
pub mod Linked
pub mod Passes
pub mod Tally
