mod Added
mod KeyLemmas
