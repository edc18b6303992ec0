pub mod RestLemmas
pub mod WholeLemmas
pub mod JobLemmas
pub mod CommandLemmas
pub mod CheckLemmas
