-- What the clauses of this crate cite: the motion of a move and the reach of a hoist.
pub use Rattle.hoist_base.specs.LineData
pub use Rattle.hoist_base.specs.Routes
pub use Rattle.line_model.specs.Motion
