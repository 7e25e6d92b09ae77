pub mod ReadLemmas
pub mod TurnLemmas
pub mod RestLemmas
pub mod LinkLemmas
pub mod ToldLaws
