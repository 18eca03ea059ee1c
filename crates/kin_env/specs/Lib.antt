pub mod Nodes
pub mod Joints
pub mod Walks
pub mod Halves
pub mod Trees
pub mod TreeLaws
pub mod MarkLaws
