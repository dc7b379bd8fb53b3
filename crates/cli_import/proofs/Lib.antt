mod FaultLemmas
mod ImportLemmas
mod KeyLemmas
mod ListLemmas
