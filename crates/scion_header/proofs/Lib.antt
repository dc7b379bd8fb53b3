mod ReadingLemmas
mod WritingLemmas
