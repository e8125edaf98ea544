pub mod EndReached
pub mod Finding
