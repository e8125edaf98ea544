pub mod FilledRanks
