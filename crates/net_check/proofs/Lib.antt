mod Added
mod PairLemmas
