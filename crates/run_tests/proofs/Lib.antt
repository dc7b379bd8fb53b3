pub mod OkLemmas
pub mod UntoldLemmas
