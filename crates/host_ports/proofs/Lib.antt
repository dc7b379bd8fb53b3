mod FoundLemmas
pub mod ExtensionLemmas
pub mod QuoteLemmas
pub mod GivenLemmas
pub mod NoneLemmas
