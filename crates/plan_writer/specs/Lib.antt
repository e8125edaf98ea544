pub mod Written
pub mod PairByPair
