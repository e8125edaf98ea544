pub mod Fields
pub mod SignedVotes
