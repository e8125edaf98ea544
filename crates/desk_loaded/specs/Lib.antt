pub mod Held
pub mod OnDesk
pub mod RosterBytes
