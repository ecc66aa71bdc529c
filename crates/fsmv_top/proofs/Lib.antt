pub mod WordLemmas
pub mod OutputLemmas
pub mod InputLemmas
pub mod TextLemmas
pub mod PlanLemmas
pub mod OneAnswer
