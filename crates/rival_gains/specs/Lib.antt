pub mod Gains
pub mod BothGains
