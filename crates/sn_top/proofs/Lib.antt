pub mod ByWordsLemmas
pub mod PlanLemmas
pub mod ServeLemmas
pub mod ConvertLemmas
pub mod DrillLemmas
pub mod ShelfLemmas
