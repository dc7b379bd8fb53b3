-- The text of a running router's counts: its families, in their order.
use Rattle.std.specs.Prelude.{ℕ, List, ◌++◌, codes}
use Rattle.process_packet.specs.declared.totals.Totals.{Totals}
use Rattle.metrics_text.specs.declared.link_counts.Figure.TheVariants.{Input, Output, Closed}
use Rattle.metrics_text.specs.declared.link_counts.LinkCounts.{LinkCounts}
use Rattle.metrics_text.specs.Reasons.{every_cause}
use Rattle.metrics_text.specs.Samples.{drops_of, escaped, heading, links_text, plain_text}

unfoldable pub input_family : List LinkCounts → List ℕ
input_family links =
    heading (codes "router_input_pkts_total") (codes "Datagrams that a link's receiver took from its socket.") (codes "counter") ++ links_text (codes "router_input_pkts_total") Input links

unfoldable pub output_family : List LinkCounts → List ℕ
output_family links =
    heading (codes "router_output_pkts_total") (codes "Packets and answers that a link's forwarder handed to its socket.") (codes "counter") ++ links_text (codes "router_output_pkts_total") Output links

unfoldable pub drops_family : Totals → List ℕ
drops_family t = heading (codes "router_dropped_pkts_total") (codes "Packets and answers that were dropped, by cause.") (codes "counter") ++ drops_of t every_cause

unfoldable pub answered_family : Totals → List ℕ
answered_family t = heading (codes "router_answered_pkts_total") (codes "Packets whose answer was handed to a socket.") (codes "counter") ++ plain_text (codes "router_answered_pkts_total") t.answered

unfoldable pub closed_family : List LinkCounts → List ℕ
closed_family links = heading (codes "router_link_closed") (codes "1 where the link was closed, else 0.") (codes "gauge") ++ links_text (codes "router_link_closed") Closed links

unfoldable pub version_sample : List ℕ → List ℕ
version_sample version = codes "yewpleat_build_info{version=\"" ++ (escaped version ++ codes "\"} 1\n")

unfoldable pub build_family : List ℕ → List ℕ
build_family version = heading (codes "yewpleat_build_info") (codes "The version that runs; its value is 1.") (codes "gauge") ++ version_sample version

unfoldable pub start_family : ℕ → List ℕ
start_family start = heading (codes "process_start_time_seconds") (codes "When it began to run, in seconds since 1970.") (codes "gauge") ++ plain_text (codes "process_start_time_seconds") start

unfoldable pub links_part : List LinkCounts → List ℕ
links_part links = input_family links ++ output_family links

unfoldable pub totals_part : Totals → List ℕ
totals_part t = drops_family t ++ answered_family t

unfoldable pub process_part : List LinkCounts → List ℕ → ℕ → List ℕ
process_part links version start = closed_family links ++ (build_family version ++ start_family start)

-- of the links, of the totals, and of the process
unfoldable pub metrics : List LinkCounts → Totals → List ℕ → ℕ → List ℕ
metrics links t version start = links_part links ++ (totals_part t ++ process_part links version start)
