pub mod ChoiceVote
pub mod Asked
