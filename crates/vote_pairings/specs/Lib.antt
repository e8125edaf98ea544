pub mod SideBytes
pub mod SidePairings
pub mod RosterPairings
