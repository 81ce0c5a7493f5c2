pub mod Walks
pub mod Cycles
pub mod ValueLemmas
pub mod StepLemmas
pub mod NearLemmas
pub mod RowLemmas
pub mod LeastLemmas
pub mod SettleLemmas
