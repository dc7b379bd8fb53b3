pub mod LinesLemmas
pub mod ToldLemmas
pub mod HexLineLemmas
pub mod TextLemmas
pub mod ReportLemmas
