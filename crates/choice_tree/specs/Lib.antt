pub mod Nodes
pub mod Trees
pub mod Origins
pub mod Laws
