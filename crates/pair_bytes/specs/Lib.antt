pub mod PairAt
