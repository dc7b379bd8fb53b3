-- What a running router prints at its end: how much each link sent, and the counts.
use Rattle.std.specs.Prelude.{ℕ, List, ◌++◌, codes, decimal, length, min, slice_index}
use Rattle.std.specs.List.{flat_map, range_with_len}
use Rattle.process_packet.specs.declared.totals.Totals.{Totals}
use Rattle.cli_io.specs.Counts.{count_text, drops_text}

-- how much the link of an interface sent
abbrev pub sent_text : ℕ → ℕ → List ℕ
sent_text id sent = codes "link " ++ (decimal id ++ (codes " " ++ count_text (codes "sent") sent))

-- the line of the link with a number
abbrev pub sent_line : (ids sent : List ℕ) → ℕ → List ℕ
sent_line ids sent k = sent_text (slice_index ids k) (slice_index sent k)

abbrev pub totals_text : Totals → List ℕ
totals_text t = count_text (codes "received") t.received ++ (count_text (codes "sent") t.sent ++ count_text (codes "answered") t.answered)

-- the links in ascending order of their interfaces, then the counts, then a line for each cause that something was dropped for
unfoldable pub run_report : (ids sent : List ℕ) → Totals → List ℕ
run_report ids sent t = flat_map (sent_line ids sent) (range_with_len 0 (min (length ids) (length sent))) ++ (totals_text t ++ drops_text 1 t.dropped)
