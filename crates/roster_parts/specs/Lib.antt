pub mod Gives
pub mod Growth
pub mod Mapped
pub mod Places
pub mod Rankings
