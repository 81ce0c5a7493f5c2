pub mod ShiftLemmas
pub mod PairLemmas
pub mod AskLemmas
pub mod MarkLemmas
pub mod StayLemmas
pub mod RoutedLemmas
pub mod LookupLemmas
