mod ReadingLemmas
mod SegmentLemmas
mod PlaceLemmas
mod WritingLemmas
mod InPlaceLemmas
mod OneHopLemmas
mod ReversingLemmas
