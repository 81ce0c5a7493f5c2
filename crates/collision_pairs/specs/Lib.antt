-- What the clauses of this crate cite: forbidden offsets, and the clash of two motions.
pub use Rattle.hoist_base.specs.LineData
pub use Rattle.line_model.specs.Motion
pub mod Forbidden
pub mod Clash
pub mod Laws
