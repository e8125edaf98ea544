pub mod Greedy
pub mod Keys
pub mod Least
pub mod NodeByRotation
pub mod NodePairs
pub mod PairingPairs
pub mod Rotation
