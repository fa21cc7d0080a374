pub mod CallLemmas
pub mod PinLemmas
pub mod HistoryLemmas
pub mod KeptLemmas
