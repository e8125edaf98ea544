pub mod PairEdge
pub mod PairRefusal
pub mod PlanEdges
