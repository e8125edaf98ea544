pub mod Edges
pub mod Leads
pub mod Marks
pub mod Walks
