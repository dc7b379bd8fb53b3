pub mod ClosingLemmas
pub mod FillingLemmas
pub mod Fresh
pub mod HandingLemmas
pub mod OkLemmas
pub mod PipesLemmas
pub mod RestLemmas
